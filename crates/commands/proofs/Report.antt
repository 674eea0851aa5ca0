-- The report's six numbers: the cabinets and spans are the accepted commands that add one.
use mathlib.Core.Bool.{Bool, true, false, cond}
use mathlib.Core.List.{List, [], ◌∷◌, map}
use mathlib.Core.Path.{◌≡◌, refl, sym, ◌∙◌, ap}
use Prim.Native.Nat.{ℕ, suc, ◌+◌, ◌≤◌}
use native.Mathlib.Nat.{zero-add, add-zero}
use native.Mathlib.Omega.{arith}
use lib.ListN.{length}
use Rattle.graph.specs.Network.{Rule, edge_count, add_vertex, add_edge}
use Rattle.graph.proofs.Joined.{edge_count_more}
use Rattle.naming.specs.Book.{Book, Addition, vertex, edge, neither, empty_book, enter_vertex, enter_edge, feed, feed_all}
use Rattle.naming.specs.State.{State, empty_state}
use Rattle.commands.specs.Command.{Command}
use Rattle.commands.specs.Facts.{addition, state_after}
use Rattle.commands.specs.Forecast.{is_cabinet, is_span, count_adding, cabinet_commands, span_commands}
use Rattle.commands.specs.Run.{Run, commands_of, bytes_of_answers, place_after}
use Rattle.commands.specs.Entry.{book_after, number_of, report_of}
use Rattle.commands.proofs.StateAfter.{book_fed, book_after_commands}

-- to count one behind a number is to count it before the rest
pub count_one : (t : Bool) (n rest : ℕ) → n + cond t (suc rest) rest ≡ cond t (suc n) n + rest
count_one true n rest = omega arith
count_one false n rest = refl

-- a number of a book that every addition which passes the test raises by one, and no other changes, counts the commands that add such
counts : (p : Addition → Bool) (size : Book → ℕ) → ((b : Book) (a : Addition) → size (feed b a) ≡ cond (p a) (suc (size b)) (size b))
    → (b : Book) (cs : List Command) → size (feed_all b (map addition cs)) ≡ size b + count_adding p cs
unfolding feed_all count_adding
counts p size step b [] = sym (add-zero (size b))
counts p size step b (c ∷ cs) =
    counts p size step (feed b (addition c)) cs
    ∙ ap (λ n. n + later) (step b (addition c))
    ∙ sym (count_one (p (addition c)) (size b) later)
  where
    later : ℕ
    later = count_adding p cs

cabinet_step : (b : Book) (a : Addition) → (feed b a).network.vertices ≡ cond (is_cabinet a) (suc b.network.vertices) b.network.vertices
unfolding feed is_cabinet enter_vertex enter_edge add_vertex add_edge
cabinet_step b vertex = refl
cabinet_step b (edge e) = refl
cabinet_step b neither = refl

span_step : (b : Book) (a : Addition) → edge_count (feed b a).network ≡ cond (is_span a) (suc (edge_count b.network)) (edge_count b.network)
unfolding feed is_span enter_vertex enter_edge add_vertex edge_count
span_step b vertex = refl
span_step b (edge e) = edge_count_more b.network e
span_step b neither = refl

-- so nothing that is added takes one away
no_less : (t : Bool) (n : ℕ) → n ≤ cond t (suc n) n
no_less true n = omega arith
no_less false n = omega arith

pub vertices_grow : (b : Book) (a : Addition) → b.network.vertices ≤ (feed b a).network.vertices
vertices_grow b a = rw (cabinet_step b a) (no_less (is_cabinet a) b.network.vertices)

pub edges_grow : (b : Book) (a : Addition) → edge_count b.network ≤ edge_count (feed b a).network
edges_grow b a = rw (span_step b a) (no_less (is_span a) (edge_count b.network))

-- after commands there are as many cabinets more as commands that add one
pub cabinets_after : (s : State) (cs : List Command)
    → (state_after s cs).book.network.vertices ≡ s.book.network.vertices + cabinet_commands cs
unfolding cabinet_commands
cabinets_after s cs = rw (book_fed s cs) (counts is_cabinet (λ b. b.network.vertices) cabinet_step s.book cs)

-- and as many spans more as commands that add one
pub spans_after_lem : (s : State) (cs : List Command) → edge_count (state_after s cs).book.network ≡ edge_count s.book.network + span_commands cs
unfolding span_commands
spans_after_lem s cs = rw (book_fed s cs) (counts is_span (λ b. edge_count b.network) span_step s.book cs)

-- so from an empty network the cabinets are the commands that add one
pub cabinets_from_none : (rule : Rule) (cs : List Command) → (state_after (empty_state rule) cs).book.network.vertices ≡ cabinet_commands cs
unfolding empty_state empty_book
cabinets_from_none rule cs = cabinets_after (empty_state rule) cs ∙ zero-add (cabinet_commands cs)

-- and so are the spans
pub spans_from_none : (rule : Rule) (cs : List Command) → edge_count (state_after (empty_state rule) cs).book.network ≡ span_commands cs
unfolding empty_state empty_book edge_count
spans_from_none rule cs = spans_after_lem (empty_state rule) cs ∙ zero-add (span_commands cs)

-- the book's cabinets and spans are the accepted commands that add one
pub cabinets_counted : (rule : Rule) (cs : List Command) → (book_after rule cs).network.vertices ≡ cabinet_commands cs
cabinets_counted rule cs = rw (← book_after_commands rule cs) (cabinets_from_none rule cs)

pub spans_counted : (rule : Rule) (cs : List Command) → edge_count (book_after rule cs).network ≡ span_commands cs
spans_counted rule cs = rw (← book_after_commands rule cs) (spans_from_none rule cs)

-- the report: refusal, place, commands accepted, answer bytes, cabinets and spans
pub report_is : (rule : Rule) (run : Run) → report_of rule run
    ≡ number_of run.refusal
    ∷ place_after run.accepted
    ∷ length run.accepted
    ∷ length (bytes_of_answers run.accepted)
    ∷ cabinet_commands (commands_of run)
    ∷ span_commands (commands_of run)
    ∷ []
unfolding report_of
report_is rule run = rw (cabinets_counted rule (commands_of run), spans_counted rule (commands_of run))
