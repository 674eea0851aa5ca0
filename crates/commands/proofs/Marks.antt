-- The exchanges of a run are the cabinets that its 09 commands name; over all rings, each counted once, they are as many as these commands.
use mathlib.Core.Bool.{Bool, true, false, cond, false≢true}
use mathlib.Core.List.Memᴰ
use mathlib.Core.List.{List, [], ◌∷◌, Memᴰ}
use mathlib.Core.Logic.{◌↔◌, ◌⊎◌, inl, inr, ⊎_elim}
use mathlib.Core.Option.{none}
use mathlib.Core.Path.{◌≡◌, refl, sym, ◌∙◌, ap, subst}
use Prim.Native.Nat.{ℕ, suc, ◌+◌, ◌<◌}
use native.Mathlib.Nat.{zero-add}
use native.Mathlib.Omega.{arith}
use lib.Dec.{eqb}
use lib.ListN.{take}
use Rattle.graph.specs.Below.{count}
use Rattle.graph.specs.Lists.{all_in}
use Rattle.graph.specs.Network.{Rule, add_vertex, add_edge}
use Rattle.graph.specs.Groups.{bridge_block}
use Rattle.graph.specs.Route.{Choice}
use Rattle.graph.proofs.Truth.{false_of_not, false_of_not_true, not_both, and_left, or_left, or_right, or_cases, eqb_eq, eq-eqb}
use Rattle.graph.proofs.BridgeBlock.{bridge_block_equivalence}
use Rattle.naming.specs.Book.{Addition, vertex, edge, neither, empty_book, enter_vertex, enter_edge, feed}
use Rattle.naming.specs.Survey.{Survey}
use Rattle.naming.specs.State.{State, empty_state, after_addition, Recording, records_nothing, records_mark, records_survey, marks_after, after_recording, marks_with}
use Rattle.naming.proofs.Count.{count_last_out, count_with}
use Rattle.naming.proofs.Equivalent.{equivalent_of}
use Rattle.naming.proofs.GroupSum.{groups_add_up}
use Rattle.commands.specs.Command.{Command, mark_exchange, record_length, command_byte}
use Rattle.commands.specs.Facts.{facts, demands_of, addition, recording, after, state_after}
use Rattle.commands.specs.Refusal.{Capacities, refusal_number, met, cause, meets, refusal_of}
use Rattle.commands.specs.Entry.{whole_run, accepted_commands}
use Rattle.commands.specs.Marks.{mark_commands, exchanges_of_rings, ExchangesAddUp}
use Rattle.commands.proofs.Causes.{not_refused_exactly}
use Rattle.commands.proofs.Recorded.{Records, records}
use Rattle.commands.proofs.Report.{vertices_grow}
use Rattle.commands.proofs.Known.{KnownState, mark_known, empty_known, known_after}
use Rattle.commands.proofs.RunBooks.{NoneRefused, first_not_refused, whole_run_not_refused}

-- the byte of a mark is 09
mark_byte : (x : ℕ) → eqb (command_byte (mark_exchange x)) 0x09 ≡ true
unfolding command_byte
mark_byte x = refl

-- and that of a survey is not
survey_byte : (r : Survey) → eqb (command_byte (record_length r.measured r.day r.metres)) 0x09 ≡ false
unfolding command_byte
survey_byte r = refl

-- a cabinet is an exchange after a command exactly if it was one, or the command is its 09
marked_by_one : (s : State) (c : Command) (x : ℕ) → ((after s c).marked x ≡ true) ↔ ((s.marked x ≡ true) ⊎ (mark_exchange x ≡ c))
unfolding after after_addition after_recording marks_after
marked_by_one s c x = go (recording c) (records c)
  where
    unchanged : eqb (command_byte c) 0x09 ≡ false → (s.marked x ≡ true) ↔ ((s.marked x ≡ true) ⊎ (mark_exchange x ≡ c))
    unchanged other = (inl, ⊎_elim (λ m. m) (λ e. absurd (not_both (mark_byte x) (rw e other))))

    go : (r : Recording) → Records c r → (marks_after s.marked r x ≡ true) ↔ ((s.marked x ≡ true) ⊎ (mark_exchange x ≡ c))
    go records_nothing other = unchanged other.0
    go (records_survey r) is = unchanged (rw is (survey_byte r))
    go (records_mark y) is = (
      λ m. ⊎_elim (λ e. inr (ap mark_exchange (eqb_eq x y e) ∙ sym is)) inl (or_cases (eqb x y) (s.marked x) m),
      ⊎_elim
          (or_right (eqb x y))
          (λ e. let same : mark_exchange x ≡ mark_exchange y = e ∙ is in or_left (eq-eqb x y (cc)) (s.marked x)),
    )

-- and after commands, if it was one, or its 09 is among them
marked_by_commands : (s : State) (cs : List Command) (x : ℕ)
    → ((state_after s cs).marked x ≡ true) ↔ ((s.marked x ≡ true) ⊎ Memᴰ (mark_exchange x) cs)
unfolding state_after
marked_by_commands s [] x = (inl, ⊎_elim (λ m. m) (λ n. absurd (Memᴰ.not-nil n)))
marked_by_commands s (c ∷ later) x = go (marked_by_commands (after s c) later x) (marked_by_one s c x)
  where
    go : ((state_after (after s c) later).marked x ≡ true) ↔ (((after s c).marked x ≡ true) ⊎ Memᴰ (mark_exchange x) later)
        → ((after s c).marked x ≡ true) ↔ ((s.marked x ≡ true) ⊎ (mark_exchange x ≡ c))
        → ((state_after (after s c) later).marked x ≡ true) ↔ ((s.marked x ≡ true) ⊎ Memᴰ (mark_exchange x) (c ∷ later))
    go rest one = (
      λ m. ⊎_elim (λ a. ⊎_elim inl (λ e. inr (Memᴰ.head e)) (one.0 a)) (λ n. inr (Memᴰ.tail n)) (rest.0 m),
      ⊎_elim
          (λ m. rest.1 (inl (one.1 (inl m))))
          (λ n. ⊎_elim (λ e. rest.1 (inl (one.1 (inr e)))) (λ k. rest.1 (inr k)) (Memᴰ.cases_cons n)),
    )

-- from an empty network a cabinet is an exchange exactly if its 09 is among the commands
pub marked_exactly : (rule : Rule) (cs : List Command) (x : ℕ)
    → ((state_after (empty_state rule) cs).marked x ≡ true) ↔ Memᴰ (mark_exchange x) cs
unfolding empty_state
marked_exactly rule cs x =
    let both = marked_by_commands (empty_state rule) cs x in
    (λ m. ⊎_elim (λ e. absurd (false≢true e)) (λ n. n) (both.0 m), λ n. both.1 (inr n))

-- what is recorded is new: a cabinet that is marked is known, and was no exchange
abbrev New : State → Recording → Type 0
New s records_nothing = Unit
New s (records_mark x) = (x < s.book.network.vertices) × (s.marked x ≡ false)
New s (records_survey r) = Unit

-- a 09 that is not refused names a cabinet that is known, and is no exchange
new_mark : (caps : Capacities) (s : State) (x : ℕ) → refusal_of caps s (mark_exchange x) ≡ none → New s (records_mark x)
unfolding meets facts demands_of all_in met cause refusal_number
new_mark caps s x e =
    let n = (not_refused_exactly caps s (mark_exchange x)).0 e in
    (mark_known s x n.cabinets_known_lem, false_of_not_true _ (and_left _ true n.no_exchange_lem))

new_recording : (caps : Capacities) (s : State) (c : Command) → refusal_of caps s c ≡ none → New s (recording c)
new_recording caps s c e = go (recording c) (records c)
  where
    go : (r : Recording) → Records c r → New s r
    go records_nothing other = tt
    go (records_mark x) is = new_mark caps s x (subst (λ d. refusal_of caps s d ≡ none) is e)
    go (records_survey r) is = tt

-- the exchanges of the network, counted
abbrev exchanges : State → ℕ
exchanges s = count s.book.network.vertices s.marked

-- what is added is no exchange
added_none : (s : State) (a : Addition) → KnownState s → exchanges (after_addition s a) ≡ exchanges s
unfolding after_addition feed enter_vertex add_vertex enter_edge add_edge
added_none s vertex known =
    count_last_out s.book.network.vertices s.marked (false_of_not _ (λ m. not_below (known.marks_known s.book.network.vertices m)))
  where
    not_below : {n : ℕ} → n < n → ⊥
    not_below h = omega arith
added_none s (edge e) known = refl
added_none s neither known = refl

-- and what is marked is one more
one_exchange_more : (s : State) (c : Command) (r : Recording) → Records c r → New s r
    → exchanges (after_recording s r) ≡ cond (eqb (command_byte c) 0x09) (suc (exchanges s)) (exchanges s)
unfolding after_recording marks_after
one_exchange_more s c records_nothing other new = rw other.0
one_exchange_more s c (records_survey r) is new = rw (is, survey_byte r)
one_exchange_more s c (records_mark x) is new =
    rw (is, mark_byte x) (count_with s.book.network.vertices (λ y. true) s.marked x new.0 new.1)

-- what a command marks is new in the state with what it adds, too
new_still : (s : State) (a : Addition) (r : Recording) → New s r → New (after_addition s a) r
unfolding after_addition
new_still s a records_nothing new = tt
new_still s a (records_survey r) new = tt
new_still s a (records_mark x) new = (omega (arith, new.0, vertices_grow s.book a), new.1)

-- after commands that are not refused there are as many exchanges more as commands of 09
exchanges_after : (caps : Capacities) (s : State) (cs : List Command) → KnownState s → NoneRefused caps s cs
    → exchanges (state_after s cs) ≡ exchanges s + mark_commands cs
unfolding state_after mark_commands
exchanges_after caps s [] known w = omega arith
exchanges_after caps s (c ∷ later) known w =
    let new = new_recording caps s c w.0 in
    let added = after_addition s (addition c) in
    exchanges_after caps (after s c) later (known_after caps s c known w.0) w.1
    ∙ more (eqb (command_byte c) 0x09) (exchanges s) (mark_commands later)
    (unfold after in (
    one_exchange_more added c (recording c) (records c) (new_still s (addition c) (recording c) new)
    ∙ ap (λ k. cond (eqb (command_byte c) 0x09) (suc k) k) (added_none s (addition c) known)
    ))
  where
    more : (b : Bool) (k l : ℕ) {now : ℕ} → now ≡ cond b (suc k) k → now + l ≡ k + cond b (suc l) l
    more true k l h = omega arith
    more false k l h = omega arith

-- ring by ring there are as many as in all
rings_add_up : (s : State) → exchanges_of_rings s ≡ exchanges s
unfolding exchanges_of_rings marks_with
rings_add_up s =
    let g = s.book.network in
    groups_add_up g.vertices (bridge_block g) (equivalent_of (bridge_block g) (bridge_block_equivalence g)) s.marked

-- in every run, after every number of the accepted commands, the exchanges of all rings are as many as the commands of 09
pub exchanges_add_up : (rule : Rule) (choice : Choice) (caps : Capacities) (journal : List ℕ) (work_length answers_length report_length : ℕ)
    → ExchangesAddUp rule (accepted_commands (whole_run rule choice caps journal work_length answers_length report_length))
unfolding empty_state empty_book count
exchanges_add_up rule choice caps journal work_length answers_length report_length k h =
    let cs = accepted_commands (whole_run rule choice caps journal work_length answers_length report_length) in
    let not_refused = whole_run_not_refused rule choice caps journal work_length answers_length report_length in
    rings_add_up (state_after (empty_state rule) (take k cs))
    ∙ exchanges_after caps (empty_state rule) (take k cs) (empty_known rule) (first_not_refused caps (empty_state rule) cs not_refused k)
    ∙ zero-add (mark_commands (take k cs))
