-- The planner's name list keeps up with the naming book: hearing the answer to a command turns the names before it into those after it.
use mathlib.Core.Bool.{Bool, true, false, not, cond, ◌&&◌, ◌||◌}
use mathlib.Core.List.{List, [], ◌∷◌, ◌++◌, map}
use mathlib.Core.Logic.{◌⊎◌, inl, inr}
use mathlib.Core.Path.{◌≡◌, refl, sym, ◌∙◌, ap, ap₂}
use Prim.Native.Nat.{ℕ, zero, suc, ◌<◌}
use native.Mathlib.Omega.{arith}
use lib.Dec.{eqb, ltb}
use lib.ListN.{length, take}
use Rattle.graph.specs.Below.{tabulate}
use Rattle.graph.specs.Lists.{is_in}
use Rattle.graph.specs.Network.{Edge, Rule, edge_count, add_vertex, add_edge}
use Rattle.graph.specs.Route.{Choice}
use Rattle.graph.proofs.Truth.{true_or_false, eqb_eq, lt-ltb, ge_ltb}
use Rattle.graph.proofs.Joined.{edge_count_more}
use Rattle.naming.specs.Rename.{name_of, changed_items}
use Rattle.naming.specs.Book.{Book, empty_book, enter_vertex, enter_edge, feed}
use Rattle.naming.specs.State.{State, after_addition, after_recording}
use Rattle.commands.specs.Field.{Kind, district, ring, mesh}
use Rattle.commands.specs.Command.{Command}
use Rattle.commands.specs.Answer.{Notice, changes, notices, Answer}
use Rattle.commands.specs.Facts.{Facts, adds_cabinet, adds_span, adds_nothing, facts, addition_of, addition, after, span_answer, answer_to, answer, state_after}
use Rattle.commands.specs.NameList.{Named, NameList, no_names, set_name, set_name_of, apply_notices, add_cabinet_named, add_span_named, hear, hear_all, named, names_of}
use Rattle.commands.proofs.SizedBook.{SizedBook, sized_after}
use Rattle.commands.proofs.Notices.{changes_told, changed}
use Rattle.graph.proofs.Members.{is_in-listed}
use Rattle.naming.proofs.Listed.{tabulate_same, map_tabulate}
use Rattle.naming.proofs.Naming.{name_of_old, name_of_new}

-- the numbers below n, each with the name that a function gives it
abbrev entries : ℕ → (ℕ → ℕ) → List Named
entries n f = tabulate n (λ x. record { item = x; name = f x })

set_name_lem : (y name n : ℕ) (f : ℕ → ℕ) → set_name y name (entries n f) ≡ entries n (λ x. cond (eqb x y) name (f x))
unfolding set_name
set_name_lem y name n f =
    map_tabulate (λ (e : Named). record { item = e.item; name = cond (eqb e.item y) name e.name }) n (λ x. record { item = x; name = f x })

-- each listed item gets the name that a function gives it
set_names : (ℕ → ℕ) → List ℕ → List Named → List Named
set_names g [] l = l
set_names g (y ∷ ys) l = set_names g ys (set_name y (g y) l)

set-names : (g : ℕ → ℕ) (ys : List ℕ) (n : ℕ) (f : ℕ → ℕ)
    → set_names g ys (entries n f) ≡ entries n (λ x. cond (is_in x ys) (g x) (f x))
unfolding set_names is_in
set-names g [] n f = refl
set-names g (y ∷ ys) n f =
    rw (set_name_lem y (g y) n f)
    (set-names g ys n (λ x. cond (eqb x y) (g y) (f x))
    ∙ tabulate_same n _ _ (λ x h. ap (λ name. record { item = x; name = name }) (go x (true_or_false (eqb x y)) (is_in x ys))))
  where
    go : (x : ℕ) → (eqb x y ≡ true) ⊎ (eqb x y ≡ false) → (later : Bool)
        → cond later (g x) (cond (eqb x y) (g y) (f x)) ≡ cond (eqb x y || later) (g x) (f x)
    go x (inl e) true = rw e
    go x (inl e) false = rw e (ap g (sym (eqb_eq x y e)))
    go x (inr e) true = rw e
    go x (inr e) false = rw e

settled : (old new : ℕ) (below : Bool) (name : ℕ) → name ≡ cond below old new → cond (below && not (eqb old new)) new name ≡ new
settled old new false name e = e
settled old new true name e = go (true_or_false (eqb old new))
  where
    go : (eqb old new ≡ true) ⊎ (eqb old new ≡ false) → cond (not (eqb old new)) new name ≡ new
    go (inl q) = rw q (e ∙ eqb_eq old new q)
    go (inr q) = rw q

-- Setting the names that changed to the new ones gives the new names, if the entries hold the old names of the old items and the new
-- names of all others.
set-changed : (old new : List ℕ) (n : ℕ) (f : ℕ → ℕ)
    → ((x : ℕ) → x < n → f x ≡ cond (ltb x (length old)) (name_of old x) (name_of new x))
    → set_names (name_of new) (changed old new) (entries n f) ≡ named n new
unfolding named
set-changed old new n f e =
    set-names (name_of new) (changed old new) n f
    ∙ tabulate_same
    n
    _
    _
    (λ x h.
    ap
    (λ name. record { item = x; name = name })
    (rw (is_in-listed (length old) (λ y. not (eqb (name_of old y) (name_of new y))) x)
    (settled (name_of old x) (name_of new x) (ltb x (length old)) (f x) (e x h))))

-- as many items as before
set_all_changed : (old new : List ℕ) (n : ℕ) → length old ≡ n → set_names (name_of new) (changed old new) (named n old) ≡ named n new
unfolding named
set_all_changed old new n s =
    set-changed old new n (name_of old) (λ x h. rw (lt-ltb x (length old) (omega arith)))

-- one item more, listed under its new name
set_changed_and_new : (old new : List ℕ) (n : ℕ) → length old ≡ n
    → set_names (name_of new) (changed old new) (named n old ++ record { item = n; name = name_of new n } ∷ []) ≡ named (suc n) new
unfolding named tabulate
set_changed_and_new old new n s =
    ap (set_names (name_of new) (changed old new)) entered ∙ set-changed old new (suc n) f (λ x h. rw s)
  where
    f : ℕ → ℕ
    f x = cond (ltb x n) (name_of old x) (name_of new x)

    entered : named n old ++ record { item = n; name = name_of new n } ∷ [] ≡ entries (suc n) f
    entered =
        ap₂ {A = List Named} {B = ℕ}
        (λ l name. l ++ record { item = n; name = name } ∷ [])
        (tabulate_same n _ _ (λ x h. ap (λ name. record { item = x; name = name }) (rw (lt-ltb x n h))))
        (rw (ge_ltb n n (omega arith)))

-- a change of the names of one kind
on_kind : Kind → (List Named → List Named) → NameList → NameList
on_kind district h l = record { districts = h l.districts; rings = l.rings; meshes = l.meshes }
on_kind ring h l = record { districts = l.districts; rings = h l.rings; meshes = l.meshes }
on_kind mesh h l = record { districts = l.districts; rings = l.rings; meshes = h l.meshes }

apply_of_kind : (kind : Kind) (g : ℕ → ℕ) (xs : List ℕ) (l : NameList)
    → apply_notices (map (λ x. record { kind = kind; item = x; name = g x }) xs) l ≡ on_kind kind (set_names g xs) l
unfolding apply_notices on_kind set_names set_name_of
apply_of_kind district g [] l = refl
apply_of_kind ring g [] l = refl
apply_of_kind mesh g [] l = refl
apply_of_kind district g (x ∷ xs) l = apply_of_kind district g xs (set_name_of district x (g x) l)
apply_of_kind ring g (x ∷ xs) l = apply_of_kind ring g xs (set_name_of ring x (g x) l)
apply_of_kind mesh g (x ∷ xs) l = apply_of_kind mesh g xs (set_name_of mesh x (g x) l)

apply_append : (ts us : List Notice) (l : NameList) → apply_notices (ts ++ us) l ≡ apply_notices us (apply_notices ts l)
unfolding apply_notices
apply_append [] us l = refl
apply_append (t ∷ ts) us l = apply_append ts us (set_name_of t.kind t.item t.name l)

-- the notices of one kind, heard one by one
apply_changes : (kind : Kind) (old new : List ℕ) (l : NameList)
    → apply_notices (changes kind old new) l ≡ on_kind kind (set_names (name_of new) (changed old new)) l
unfolding changed_items
apply_changes kind old new l = rw (changes_told kind old new) (apply_of_kind kind (name_of new) (changed old new) l)

-- the new span under its answered name, and then the notices, turn the names before into the names after
pub hear-notices : (b b' : Book) → SizedBook b → b'.network.vertices ≡ b.network.vertices
    → edge_count b'.network ≡ suc (edge_count b.network)
    → apply_notices
    (notices b b')
    (add_span_named (edge_count b.network) (name_of b'.blocks (edge_count b.network)) (names_of b))
    ≡ names_of b'
unfolding notices on_kind add_span_named names_of
hear-notices b b' s v m =
    simp (apply_append, apply_changes, v, m)
    (λ i.
    record {
      districts = set_all_changed b.components b'.components b.network.vertices s.components_sized i;
      rings = set_all_changed b.bridge_blocks b'.bridge_blocks b.network.vertices s.bridge_blocks_sized i;
      meshes = set_changed_and_new b.blocks b'.blocks (edge_count b.network) s.blocks_sized i;
    })

-- one item more, named last
named-one_more : (l : List ℕ) (name n : ℕ) → length l ≡ n
    → named n l ++ record { item = n; name = name } ∷ [] ≡ named (suc n) (l ++ name ∷ [])
unfolding named tabulate
named-one_more l name n s =
    ap₂ {A = List Named} {B = ℕ}
    (λ l name'. l ++ record { item = n; name = name' } ∷ [])
    (tabulate_same n _ _ (λ x h. ap (λ name'. record { item = x; name = name' }) (sym (name_of_old l name x (omega arith)))))
    (sym (name_of_new l name n s))

hear_cabinet : (b : Book) → SizedBook b → add_cabinet_named b.network.vertices (names_of b) ≡ names_of (enter_vertex b)
unfolding add_cabinet_named names_of enter_vertex add_vertex edge_count
hear_cabinet b s i =
    let n = b.network.vertices in
    record {
      districts = named-one_more b.components n n s.components_sized i;
      rings = named-one_more b.bridge_blocks n n s.bridge_blocks_sized i;
      meshes = named (length b.network.edges) b.blocks;
    }

hear_span : (b : Book) → SizedBook b → (e : Edge) → hear (names_of b) (span_answer b (enter_edge b e)) ≡ names_of (enter_edge b e)
unfolding hear span_answer
hear_span b s e =
    hear-notices
    b
    (enter_edge b e)
    s
    (unfold enter_edge add_edge in refl)
    (unfold enter_edge in edge_count_more b.network e)

by_facts : (choice : Choice) (s : State) → SizedBook s.book → (f : Facts)
    → hear (names_of s.book) (answer_to choice s f) ≡ names_of (feed s.book (addition_of f))
unfolding answer_to addition_of feed
by_facts choice s sized adds_cabinet = unfold hear in hear_cabinet s.book sized
by_facts choice s sized (adds_span e operands demands) = hear_span s.book sized e
by_facts choice s sized (adds_nothing q) = unfold hear in refl

-- hearing the answer to a command turns the names before it into the names after it
pub names_heard : (choice : Choice) (s : State) → SizedBook s.book → (c : Command)
    → hear (names_of s.book) (answer choice s c) ≡ names_of (after s c).book
unfolding answer after after_addition after_recording addition
names_heard choice s sized c = by_facts choice s sized (facts c)

-- the answers to a list of commands, each from the state that those before it leave
unfoldable pub answers_from : Choice → State → List Command → List Answer
answers_from choice s [] = []
answers_from choice s (c ∷ later) = answer choice s c ∷ answers_from choice (after s c) later

-- the first answers are the answers to the first commands
pub first_answers : (choice : Choice) (k : ℕ) (s : State) (cs : List Command)
    → take k (answers_from choice s cs) ≡ answers_from choice s (take k cs)
unfolding answers_from
first_answers choice zero s cs = refl
first_answers choice (suc k) s [] = refl
first_answers choice (suc k) s (c ∷ later) = ap {B = List Answer} (λ l. answer choice s c ∷ l) (first_answers choice k (after s c) later)

-- hearing the answers to any commands turns the names before them into the names after them
pub hear_all_lem : (choice : Choice) (s : State) → SizedBook s.book → (cs : List Command)
    → hear_all (names_of s.book) (answers_from choice s cs) ≡ names_of (state_after s cs).book
unfolding hear_all answers_from state_after
hear_all_lem choice s sized [] = refl
hear_all_lem choice s sized (c ∷ later) =
    ap (λ l. hear_all l (answers_from choice (after s c) later)) (names_heard choice s sized c)
    ∙ hear_all_lem choice (after s c) (sized_after s sized c) later

-- an empty book has no names
pub no_names_lem : (rule : Rule) → names_of (empty_book rule) ≡ no_names
unfolding names_of empty_book no_names named tabulate edge_count
no_names_lem rule = refl
