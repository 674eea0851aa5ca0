-- A journal and its rewriting are forecast the same length, and with as much room both runs have ample room.
use mathlib.Core.Bool.{Bool, true, not, cond}
use mathlib.Core.List.{List, [], ◌∷◌, map}
use mathlib.Core.Logic.{◌⊎◌, inl, inr}
use mathlib.Core.Path.{◌≡◌, refl, sym, ◌∙◌, ap}
use Prim.Native.Nat.{ℕ, suc, ◌+◌, ◌≤◌}
use lib.Dec.{eqb}
use lib.ListN.{length, replicate, length-replicate}
use Rattle.graph.specs.Lists.{all_in}
use Rattle.graph.specs.Network.{Edge, Rule, MateRule, edge_between}
use Rattle.graph.specs.Route.{Choice, Serves}
use Rattle.graph.proofs.Truth.{and_left, and_right, ge_ltb}
use Rattle.naming.specs.Book.{Addition, edge}
use Rattle.commands.specs.Bytes.{all_bytes}
use Rattle.commands.specs.Command.{Command, add_span, add_duct_span, command_byte}
use Rattle.commands.specs.Facts.{facts, addition_of, addition}
use Rattle.commands.specs.Refusal.{refusal_number, Capacities}
use Rattle.commands.specs.Text.{text_of, commands_in}
use Rattle.commands.specs.Entry.{Whole, refused_at_start, ran, Buffers, whole_run, number_of, outcome, entry_under}
use Rattle.commands.specs.Ducts.{ductless, ductless_journal}
use Rattle.commands.specs.Forecast.{is_cabinet, is_span, count_adding, cabinet_commands, span_commands, longest_plain, plain_lengths, sufficient, forecast}
use Rattle.commands.specs.Rewrite.{rewritten_bytes, rewrite_command, in_own_duct, rewrite_from, rewrite_commands, rewrite, Ample}
use Rattle.commands.proofs.EachRewritten.{Is02, Unchanged, each_rewritten}
use Rattle.commands.proofs.Spelled.{commands_of_reads}
use Rattle.commands.proofs.ForecastExactly.{forecast_of_whole, forecast_nought_exactly}
use Rattle.commands.proofs.ForecastRoom.{never_without_room}
use Rattle.commands.proofs.RewriteExactly.{rewrite_nought_exactly, rewrite_with_nought}
use Rattle.commands.proofs.Rewritten.{result_read_back}

-- A number of commands that is found from the first to the last, and for which 02 and 0B count alike.
module _ (total : List Command → ℕ) (first : Command → ℕ → ℕ) (by_first : (c : Command) (later : List Command) → total (c ∷ later) ≡ first c (total later))
    (spans_alike : (x y d k : ℕ) → first (add_duct_span x y d) k ≡ first (add_span x y) k) where
  -- it is the same of the commands rewritten
  total_rewritten : (spans : ℕ) (cs : List Command) → ductless cs ≡ true → total (rewrite_from spans cs) ≡ total cs
  unfolding rewrite_from ductless all_in
  total_rewritten spans [] free = refl
  total_rewritten spans (c ∷ later) free =
      by_first (rewrite_command spans c) (rewrite_from n later)
      ∙ ap (first (rewrite_command spans c)) (total_rewritten n later (and_right (not (eqb (command_byte c) 0x0B)) _ free))
      ∙ same (each_rewritten c (and_left (not (eqb (command_byte c) 0x0B)) _ free))
      ∙ sym (by_first c later)
    where
      n : ℕ
      n = cond (is_span (addition c)) (suc spans) spans

      same : Is02 c ⊎ Unchanged c → first (rewrite_command spans c) (total later) ≡ first c (total later)
      same (inl w) = unfold rewrite_command in_own_duct facts edge_between in rw w.is (spans_alike w.from w.to (spans + 1) (total later))
      same (inr left) = ap (λ d. first d (total later)) (left.as_it_is spans)

-- so as many add a cabinet, and as many a span
adding_rewritten : (p : Addition → Bool) → ((e f : Edge) → p (edge e) ≡ p (edge f)) → (cs : List Command) → ductless cs ≡ true
    → count_adding p (rewrite_commands cs) ≡ count_adding p cs
unfolding rewrite_commands
adding_rewritten p same cs free =
    total_rewritten (count_adding p) (λ c rest. cond (p (addition c)) (suc rest) rest) (λ c later. unfold count_adding in refl)
    (λ x y d k. unfold addition addition_of facts in ap (λ b. cond b (suc k) k) (same _ _)) 0 cs free

-- the answers to the others have the same greatest lengths
plain_rewritten : (c s : ℕ) (cs : List Command) → ductless cs ≡ true → plain_lengths c s (rewrite_commands cs) ≡ plain_lengths c s cs
unfolding rewrite_commands
plain_rewritten c s cs free =
    total_rewritten (plain_lengths c s) (λ k rest. longest_plain c s (facts k) + rest) (λ k later. unfold plain_lengths in refl)
    (λ x y d k. unfold longest_plain facts in refl) 0 cs free

-- and the length that is forecast is the same
pub same-length-forecast : (cs : List Command) → ductless cs ≡ true → sufficient (rewrite_commands cs) ≡ sufficient cs
unfolding sufficient cabinet_commands span_commands
same-length-forecast cs free =
    rw (
      adding_rewritten is_cabinet (unfold is_cabinet in λ e f. refl) cs free,
      adding_rewritten is_span (unfold is_span in λ e f. refl) cs free,
      plain_rewritten (count_adding is_cabinet cs) (count_adding is_span cs) cs free,
    )

-- So the result of a journal that is rewritten is forecast the length that the journal is.
pub rewritten_forecast : (room : ℕ) (journal : List ℕ) → all_bytes journal ≡ true → (rewrite room journal).number ≡ 0
    → forecast (rewrite room journal).result
    ≡ record { number = 0; place = length (rewrite room journal).result; length = (forecast journal).length }
unfolding ductless_journal
rewritten_forecast room journal are e =
    let (accepted, rest) = (rewrite_nought_exactly room journal).0 e in
    let (short, whole) = (forecast_nought_exactly journal).0 accepted in
    let cs = commands_in journal in
    let result = rewritten_bytes journal in
    let back = result_read_back journal are short whole rest.0 rest.1.0 in
    let read = ap (λ t. map (λ r. r.command) t.commands) back ∙ commands_of_reads 0 (rewrite_commands cs) in
    rw (ap (λ r. r.result) (rewrite_with_nought room journal e), forecast_of_whole journal short whole)
    (forecast_of_whole result (ge_ltb 65536 (length result) rest.1.0) (ap (λ t. t.refusal) back)
    ∙ rw (read, same-length-forecast cs rest.0) refl)

-- With the length that is forecast for a journal a run of it has ample room, under any rule of mates and any choice of routes that serves.
pub forecast_is_ample : (rule : Rule) → MateRule rule → (choice : Choice) → Serves rule choice → (caps : Capacities) (journal : List ℕ)
    (work_length answers_length report_length : ℕ)
    → sufficient (map (λ r. r.command) (text_of journal).commands) ≤ answers_length
    → Ample (whole_run rule choice caps journal work_length answers_length report_length)
forecast_is_ample rule mates choice serves caps journal work_length answers_length report_length room =
    go (whole_run rule choice caps journal work_length answers_length report_length) refl
  where
    lent : Buffers
    lent = record { work = replicate work_length 0; answers = replicate answers_length 0; report = replicate report_length 0 }

    go : (w : Whole) → whole_run rule choice caps journal work_length answers_length report_length ≡ w → Ample w
    go (refused_at_start r) e = tt
    go (ran run) e = λ cut.
        never_without_room rule mates choice serves caps journal lent (rw (length-replicate {A = ℕ} answers_length 0) room)
        (unfold entry_under in
        rw (length-replicate {A = ℕ} work_length 0, length-replicate {A = ℕ} answers_length 0, length-replicate {A = ℕ} report_length 0, e)
        (unfold outcome in rw cut (unfold number_of refusal_number in refl)))
