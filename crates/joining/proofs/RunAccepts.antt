-- A run that nothing refuses: its book is that of the state after all of the text's commands, and is within the capacities.
use mathlib.Core.List.{map}
use mathlib.Core.Option.{none}
use mathlib.Core.Path.{◌≡◌, sym, ◌∙◌, ap}
use Rattle.graph.specs.Network.{Rule, MateRule}
use Rattle.graph.specs.Route.{Choice}
use Rattle.naming.specs.State.{empty_state}
use Rattle.commands.specs.Refusal.{Capacities}
use Rattle.commands.specs.Facts.{state_after}
use Rattle.commands.specs.Text.{Text}
use Rattle.commands.specs.Run.{run_text, commands_of}
use Rattle.commands.specs.Entry.{book_after}
use Rattle.commands.proofs.StateAfter.{book_after_commands}
use Rattle.commands.proofs.RunBooks.{Sound, empty_sound, sound_after_all}
use Rattle.joining.proofs.CommandsRun.{none_refused, takes_all}

module _ (rule : Rule) (choice : Choice) (caps : Capacities) (t : Text) (whole : (run_text choice caps (empty_state rule) t).refusal ≡ none) where
  pub accepted_book : book_after rule (commands_of (run_text choice caps (empty_state rule) t))
      ≡ (state_after (empty_state rule) (map (λ r. r.command) t.commands)).book
  accepted_book =
      ap (book_after rule) (takes_all caps choice (empty_state rule) t whole) ∙ sym (book_after_commands rule (map (λ r. r.command) t.commands))

  pub accepted_sound : MateRule rule → Sound caps (state_after (empty_state rule) (map (λ r. r.command) t.commands))
  accepted_sound mates = sound_after_all caps (empty_state rule) _ (empty_sound caps rule mates) (none_refused caps choice (empty_state rule) t whole).0
