-- How a command is answered behind another journal (request 9), where it is raised: by its answer alone, raised, but for 0F, which is answered
-- over both networks, and 0C, which is answered by any two routes that serve.
use mathlib.Core.Bool.{Bool, true, false, cond, ◌&&◌}
use mathlib.Core.List.{List, [], ◌∷◌, ◌++◌, map, map-append, map-map}
use mathlib.Core.Logic.{◌≢◌}
use mathlib.Core.Option
use mathlib.Core.Option.{Option, none, some}
use mathlib.Core.Path.{◌≡◌, refl, sym, ◌∙◌, ap, ap₂, subst}
use Prim.Native.Nat.{ℕ, suc, ◌+◌, ◌<◌, ◌≤◌}
use native.Mathlib.Omega.{arith}
use lib.Dec.{leb, ltb}
use lib.ListN.{length, length-map}
use Rattle.graph.specs.Lists.{all_in}
use Rattle.graph.specs.Below.{any_below, count}
use Rattle.graph.specs.Network.{Network, Edge, MateRule, Proper, edge_between, edge_in_duct, edge_count, add_edge}
use Rattle.graph.specs.Groups.{bridge_block, bridge}
use Rattle.graph.specs.Block.{shared_block}
use Rattle.graph.specs.Between.{bridges_between, cuts_between}
use Rattle.graph.specs.Route.{Routes, Choice, Serves}
use Rattle.graph.proofs.Truth.{and_left, ltb_lt}
use Rattle.graph.proofs.Below.{any_below-same, count_same}
use Rattle.graph.proofs.Joined.{edge_count_more}
use Rattle.graph.proofs.BelowSum.{any_front, any_behind, count-sum}
use Rattle.graph.proofs.BridgeBlock.{bridge_block_swap}
use Rattle.graph.proofs.SharedBlock.{shared_block_some}
use Rattle.graph.proofs.SideBySide.{raise_edge, beside, Beside, eqb_raised, count_beside, bridge_block-apart, bridge_block_of_first, bridge_block_of_second, beside_proper}
use Rattle.graph.proofs.SideBySideLists.{bridges_of_second, cuts_of_second, bridge_of_second, shared_block_of_second, ServeBack, serve_back}
use Rattle.graph.proofs.RoutesImage.{routes_image}
use Rattle.naming.specs.Rename.{name_of, Change, changes_between}
use Rattle.naming.specs.Book.{Book, Addition, edge, enter_edge, feed}
use Rattle.naming.specs.Lookup.{Group, component_of, bridge_block_of}
use Rattle.naming.specs.Survey.{Survey, surveys_of, is_latest, first_latest, holding}
use Rattle.naming.specs.State.{State, after_addition, after_recording}
use Rattle.naming.proofs.SideBySideNames.{names_behind, name_of_second, group_of_second, raise_change, changes_beside}
use Rattle.naming.proofs.SideBySideBooks.{beside_book, components_beside, bridge_blocks_beside, networks, feed_edge_beside}
use Rattle.commands.specs.Field.{Kind, district, ring, mesh, Field, cabinet, span, name, number, byte}
use Rattle.commands.specs.Command.{Command, add_cabinet, add_span, district_name, ring_name, shared_mesh, sole_spans, cut_cabinets, is_sole, mark_exchange, holds_exchange, add_duct_span, routes_between, record_length, span_length, exchange_share, forms, form, command_byte}
use Rattle.commands.specs.Answer.{kind_byte, Notice, notice_fields, notices_fields, item_field, change_notice, changes, notices, Plain, district_is, ring_is, sole_spans_are, cut_cabinets_are, sole_is, exchange_held, share_is, span_added, plain, plain_fields, answer_fields}
use Rattle.commands.specs.Exchange.{ring_holds_exchange, with_exchange, thousandths, share_with_exchange}
use Rattle.commands.specs.Facts.{facts, asks, mesh_answer, routes_answer, length_answer, operands_of, addition_of, addition, after, span_answer, answer_to, answer}
use Rattle.commands.specs.Refusal.{Capacities, cabinet_known, span_known, cabinets_known, spans_known, refusal_of}
use Rattle.commands.specs.Surveys.{number_in, operand_in}
use Rattle.commands.specs.Join.{Counts, counts_of, raise_item, raise_field, raise_fields, with_operands, raise_command, RaisedAnswer}
use Rattle.commands.proofs.Causes.{not_refused_exactly}
use Rattle.commands.proofs.SizedBook.{SizedBook, sized_feed}
use Rattle.commands.proofs.EachKind.{sized_by_laws}
use Rattle.commands.proofs.RunBooks.{sound_after}
use Rattle.commands.proofs.Routes.{routes_asked}
use Rattle.joining.proofs.Raised.{raise_survey}
use Rattle.joining.proofs.BesideStates.{BesideState, BesideSound, books_beside}
use Rattle.joining.proofs.RaisedRefusals.{network_is, vertices_are}

-- fields of spans, and of cabinets, raised
spans_raised : (by : Counts) (l : List ℕ) → map span (map (λ x. by.spans + x) l) ≡ raise_fields by (map span l)
unfolding raise_fields raise_field
spans_raised by l = map-map span (λ x. by.spans + x) l ∙ sym (map-map (raise_field by) span l)

cabinets_raised : (by : Counts) (l : List ℕ) → map cabinet (map (λ x. by.cabinets + x) l) ≡ raise_fields by (map cabinet l)
unfolding raise_fields raise_field
cabinets_raised by l = map-map cabinet (λ x. by.cabinets + x) l ∙ sym (map-map (raise_field by) cabinet l)

-- the answers that list them
sole_spans_raised : (by : Counts) (l : List ℕ)
    → answer_fields (plain (sole_spans_are (map (λ x. by.spans + x) l))) ≡ raise_fields by (answer_fields (plain (sole_spans_are l)))
unfolding answer_fields plain_fields raise_fields raise_field
sole_spans_raised by l =
    ap₂ (λ (n : ℕ) (fs : List Field). byte 0x86 ∷ number n ∷ fs) (length-map l (λ x. by.spans + x)) (spans_raised by l)

cut_cabinets_raised : (by : Counts) (l : List ℕ)
    → answer_fields (plain (cut_cabinets_are (map (λ x. by.cabinets + x) l))) ≡ raise_fields by (answer_fields (plain (cut_cabinets_are l)))
unfolding answer_fields plain_fields raise_fields raise_field
cut_cabinets_raised by l =
    ap₂ (λ (n : ℕ) (fs : List Field). byte 0x87 ∷ number n ∷ fs) (length-map l (λ x. by.cabinets + x)) (cabinets_raised by l)

routes_fields_raised : (by : Counts) (r : Routes)
    → answer_fields (plain (routes_answer (routes_image (λ x. by.spans + x) r))) ≡ raise_fields by (answer_fields (plain (routes_answer r)))
unfolding answer_fields plain_fields routes_answer routes_image raise_fields raise_field
routes_fields_raised by r =
    ap₂ (λ (f g : List Field). byte 0x8C ∷ (f ++ g)) (one_route r.first) (one_route r.second)
    ∙ ap (λ (l : List Field). byte 0x8C ∷ l) (sym (map-append (raise_field by) (number (length r.first) ∷ map span r.first) _))
  where
    one_route : (l : List ℕ) → (number (length (map (λ x. by.spans + x) l)) ∷ map span (map (λ x. by.spans + x) l))
        ≡ raise_fields by (number (length l) ∷ map span l)
    one_route l = ap₂ (λ (n : ℕ) (fs : List Field). number n ∷ fs) (length-map l (λ x. by.spans + x)) (spans_raised by l)

-- a notice, raised
unfoldable raise_notice : Counts → Notice → Notice
raise_notice by t = record { kind = t.kind; item = raise_item by t.kind t.item; name = raise_item by t.kind t.name }

item_raised : (by : Counts) (kind : Kind) (n : ℕ) → item_field kind (raise_item by kind n) ≡ raise_field by (item_field kind n)
unfolding item_field raise_item raise_field
item_raised by district n = refl
item_raised by ring n = refl
item_raised by mesh n = refl

notices_fields_raised : (by : Counts) (ts : List Notice) → notices_fields (map (raise_notice by) ts) ≡ raise_fields by (notices_fields ts)
unfolding notices_fields notice_fields raise_notice raise_fields raise_field
notices_fields_raised by [] = refl
notices_fields_raised by (t ∷ ts) =
    ap₂ (λ (f : Field) (l : List Field). byte (kind_byte t.kind) ∷ f ∷ name t.kind (raise_item by t.kind t.name) ∷ l)
    (item_raised by t.kind t.item) (notices_fields_raised by ts)

-- the changes of a kind, raised
changes_raised : (by : Counts) (kind : Kind) (m : ℕ) → ((n : ℕ) → raise_item by kind n ≡ m + n) → (l : List Change)
    → map (change_notice kind) (map (raise_change m) l) ≡ map (raise_notice by) (map (change_notice kind) l)
unfolding change_notice raise_notice raise_change
changes_raised by kind m is [] = refl
changes_raised by kind m is (c ∷ l) =
    ap₂ (λ (t : Notice) (ts : List Notice). t ∷ ts)
    (λ i. record { kind = kind; item = sym (is c.item) i; name = sym (is c.name) i }) (changes_raised by kind m is l)

-- the fields of the answer to an added span
abbrev span_fields : ℕ → ℕ → List Notice → List Field
span_fields n x ts = answer_fields (span_added n x ts)

span_fields_raised : (by : Counts) (n x : ℕ) (ts : List Notice)
    → span_fields (by.spans + n) (by.spans + x) (map (raise_notice by) ts) ≡ raise_fields by (span_fields n x ts)
unfolding answer_fields raise_fields raise_field raise_item
span_fields_raised by n x ts =
    ap₂ (λ (c : ℕ) (l : List Field). byte 0x82 ∷ span (by.spans + n) ∷ name mesh (by.spans + x) ∷ number c ∷ l)
    (length-map ts (raise_notice by)) (notices_fields_raised by ts)

-- the record that holds for a raised span is the one that holds for the span, raised
unfoldable raise_held : ℕ → Option Survey → Option Survey
raise_held k none = none
raise_held k (some r) = some (raise_survey k r)

latest_raised : (k : ℕ) (l : List Survey) (r : Survey) → is_latest (map (raise_survey k) l) (raise_survey k r) ≡ is_latest l r
unfolding is_latest all_in raise_survey
latest_raised k [] r = refl
latest_raised k (p ∷ l) r = ap (λ b. leb p.day r.day && b) (latest_raised k l r)

first_latest_raised : (k : ℕ) (all l : List Survey)
    → first_latest (map (raise_survey k) all) (map (raise_survey k) l) ≡ raise_held k (first_latest all l)
unfolding first_latest raise_held
first_latest_raised k all [] = refl
first_latest_raised k all (r ∷ l) =
    ap₂ (λ b (o : Option Survey). cond b (some (raise_survey k r)) o) (latest_raised k all r) (first_latest_raised k all l)
    ∙ out (is_latest all r)
  where
    out : (b : Bool) → cond b (some (raise_survey k r)) (raise_held k (first_latest all l)) ≡ raise_held k (cond b (some r) (first_latest all l))
    out true = refl
    out false = refl

length_raised : (k : ℕ) (o : Option Survey) → length_answer (raise_held k o) ≡ length_answer o
unfolding length_answer raise_held raise_survey
length_raised k none = refl
length_raised k (some r) = refl

-- no number in the answer to 0E is raised
length_stays : (by : Counts) (o : Option Survey) → answer_fields (plain (length_answer o)) ≡ raise_fields by (answer_fields (plain (length_answer o)))
unfolding answer_fields plain_fields length_answer raise_fields raise_field
length_stays by none = refl
length_stays by (some r) = refl

module _ {caps : Capacities} {one s s' : State} (w : BesideSound caps one s) (q : BesideState one s s') where
  abbrev by : Counts
  by = counts_of one

  abbrev m : ℕ
  m = one.book.network.vertices

  abbrev k : ℕ
  k = edge_count one.book.network

  abbrev g : Network
  g = s.book.network

  abbrev both : Network
  both = beside one.book.network s.book.network

  abbrev two : Beside one.book.network s.book.network
  two = networks (books_beside w)

  abbrev rule : MateRule one.book.network.rule
  rule = w.first_sound.laws.mate_rule

  -- a group, raised
  abbrev raise_group : Group → Group
  raise_group x = record { name = m + x.name; size = x.size }

  -- look-ups
  component_of_raised : (a : ℕ) → a < g.vertices → component_of s'.book (m + a) ≡ raise_group (component_of s.book a)
  unfolding component_of beside_book beside
  component_of_raised a h =
      ap (λ (b : Book). component_of b (m + a)) q.book_is
      ∙ group_of_second one.book.components s.book.components w.first_sound.laws.components_named.sized
      w.second_sound.laws.components_named.sized (components_beside two rule) a h

  bridge_block_of_raised : (a : ℕ) → a < g.vertices → bridge_block_of s'.book (m + a) ≡ raise_group (bridge_block_of s.book a)
  unfolding bridge_block_of beside_book beside
  bridge_block_of_raised a h =
      ap (λ (b : Book). bridge_block_of b (m + a)) q.book_is
      ∙ group_of_second one.book.bridge_blocks s.book.bridge_blocks w.first_sound.laws.bridge_blocks_named.sized
      w.second_sound.laws.bridge_blocks_named.sized (bridge_blocks_beside two rule) a h

  -- the mesh that is shared
  mesh_raised : (a b : ℕ) → answer_fields (plain (mesh_answer s'.book (shared_block s'.book.network (m + a) (m + b))))
      ≡ raise_fields by (answer_fields (plain (mesh_answer s.book (shared_block g a b))))
  unfolding mesh_answer answer_fields plain_fields raise_fields raise_field raise_item beside_book counts_of
  mesh_raised a b =
      ap₂ (λ (c : Book) (o : Option ℕ). answer_fields (plain (mesh_answer c o))) q.book_is
      (ap (λ (h : Network). shared_block h (m + a) (m + b)) (network_is w q) ∙ shared_block_of_second two rule a b)
      ∙ go (shared_block g a b) refl
    where
      go : (o : Option ℕ) → shared_block g a b ≡ o
          → answer_fields (plain (mesh_answer (beside_book one.book s.book) (Option.map (λ x. k + x) o)))
          ≡ raise_fields by (answer_fields (plain (mesh_answer s.book o)))
      go none e = refl
      go (some t) e =
          ap (λ (n : ℕ). byte 0x85 ∷ byte 1 ∷ name mesh n ∷ [])
          (name_of_second one.book.blocks s.book.blocks w.first_sound.laws.blocks_named.sized
          w.second_sound.laws.blocks_named.sized t (shared_block_some g a b t e).known)

  -- rings that hold an exchange
  ring_holds_raised : (a : ℕ) → a < g.vertices → ring_holds_exchange s' (m + a) ≡ ring_holds_exchange s a
  unfolding ring_holds_exchange
  ring_holds_raised a h =
      ap₂ (λ (n : ℕ) (h : Network). any_below n (λ x. bridge_block h (m + a) x && s'.marked x)) (vertices_are w q) (network_is w q)
      ∙ any_behind m _ (λ x l. ap (λ b. b && s'.marked x) (bridge_block_swap both (m + a) x ∙ bridge_block-apart two rule x a l)) g.vertices
      ∙ any_below-same g.vertices _ _ (λ x l. ap₂ ◌&&◌ (bridge_block_of_second two rule a x) (q.new_marks_lem x))

  ring_holds_of_first : (a : ℕ) → a < m → ring_holds_exchange s' a ≡ ring_holds_exchange one a
  unfolding ring_holds_exchange
  ring_holds_of_first a h =
      ap₂ (λ (n : ℕ) (h : Network). any_below n (λ x. bridge_block h a x && s'.marked x)) (vertices_are w q) (network_is w q)
      ∙ any_front m (λ x. bridge_block both a x && s'.marked x) g.vertices
      (λ x l. ap (λ b. b && s'.marked (m + x)) (bridge_block-apart two rule a x h))
      ∙ any_below-same m _ _ (λ x l. ap₂ ◌&&◌ (bridge_block_of_first two rule a x h l) (q.old_marks x l))

  -- The share over both networks.
  pub share_of_both : share_with_exchange s' ≡ thousandths (with_exchange one + with_exchange s) (m + g.vertices)
  unfolding share_with_exchange with_exchange
  share_of_both =
      ap₂ thousandths
      (ap (λ n. count n (ring_holds_exchange s')) (vertices_are w q) ∙ count-sum m g.vertices (ring_holds_exchange s')
      ∙ ap₂ ◌+◌ (count_same m _ _ ring_holds_of_first) (count_same g.vertices _ _ ring_holds_raised))
      (vertices_are w q)

  -- the notices of an added span
  notices_raised : (b : Book) → length s.book.components ≤ length b.components
      → length s.book.bridge_blocks ≤ length b.bridge_blocks → length s.book.blocks ≤ length b.blocks
      → notices (beside_book one.book s.book) (beside_book one.book b) ≡ map (raise_notice by) (notices s.book b)
  unfolding notices changes beside_book raise_item counts_of
  notices_raised b l₀ l₁ l₂ =
      ap₂ ◌++◌
      (ap₂ ◌++◌
      (of_kind district m (λ n. refl) one.book.components s.book.components b.components w.first_sound.laws.components_named.sized l₀)
      (of_kind ring m (λ n. refl) one.book.bridge_blocks s.book.bridge_blocks b.bridge_blocks w.first_sound.laws.bridge_blocks_named.sized l₁)
      ∙ sym (map-append (raise_notice by) (changes district s.book.components b.components) _))
      (of_kind mesh k (λ n. refl) one.book.blocks s.book.blocks b.blocks w.first_sound.laws.blocks_named.sized l₂)
      ∙ sym (map-append (raise_notice by) (changes district s.book.components b.components ++ changes ring s.book.bridge_blocks b.bridge_blocks) _)
    where
      of_kind : (kind : Kind) (n : ℕ) → ((x : ℕ) → raise_item by kind x ≡ n + x) → (old names names' : List ℕ) → length old ≡ n
          → length names ≤ length names'
          → map (change_notice kind) (changes_between (names_behind n old names) (names_behind n old names'))
          ≡ map (raise_notice by) (map (change_notice kind) (changes_between names names'))
      of_kind kind n is old names names' sized l =
          ap (map (change_notice kind)) (changes_beside n old names names' sized l) ∙ changes_raised by kind n is (changes_between names names')

  -- An added span is answered by its number, its mesh name and its notices, raised.
  span_answer_raised : (e : Edge) → Proper (add_edge g e)
      → answer_fields (span_answer s'.book (enter_edge s'.book (raise_edge m e)))
      ≡ raise_fields by (answer_fields (span_answer s.book (enter_edge s.book e)))
  unfolding span_answer beside_book counts_of
  span_answer_raised e proper =
      ap₂ (λ (b b'' : Book). answer_fields (span_answer b b'')) q.book_is
      (ap (λ (b : Book). enter_edge b (raise_edge m e)) q.book_is ∙ feed_edge_beside (books_beside w) e proper)
      ∙ there
    where
      b' : Book
      b' = enter_edge s.book e

      before : SizedBook s.book
      before = sized_by_laws w.second_sound.laws

      sized : SizedBook b'
      sized = unfold feed in sized_feed s.book before (edge e)

      count-after : edge_count b'.network ≡ suc (edge_count g)
      count-after = unfold enter_edge in edge_count_more g e

      same_vertices : b'.network.vertices ≡ g.vertices
      same_vertices = unfold enter_edge add_edge in refl

      mesh_name : name_of (names_behind k one.book.blocks b'.blocks) (k + edge_count g) ≡ k + name_of b'.blocks (edge_count g)
      mesh_name =
          name_of_second one.book.blocks b'.blocks w.first_sound.laws.blocks_named.sized refl (edge_count g)
          (omega (arith, sized.blocks_sized, count-after))

      told : notices (beside_book one.book s.book) (beside_book one.book b') ≡ map (raise_notice by) (notices s.book b')
      told =
          notices_raised b' (omega (arith, before.components_sized, sized.components_sized, same_vertices))
          (omega (arith, before.bridge_blocks_sized, sized.bridge_blocks_sized, same_vertices))
          (omega (arith, before.blocks_sized, sized.blocks_sized, count-after))

      there : answer_fields (span_answer (beside_book one.book s.book) (beside_book one.book b'))
          ≡ raise_fields by (answer_fields (span_answer s.book b'))
      there =
          ap (λ (n : ℕ). span_fields n (name_of (names_behind k one.book.blocks b'.blocks) n) (notices (beside_book one.book s.book) (beside_book one.book b')))
          (count_beside one.book.network g)
          ∙ ap₂ (span_fields (k + edge_count g)) mesh_name told
          ∙ span_fields_raised by (edge_count g) (name_of b'.blocks (edge_count g)) (notices s.book b')

  -- the record that holds for a span
  holding_raised : (x : ℕ) → holding s'.surveys (k + x) ≡ raise_held k (holding s.surveys x)
  unfolding holding
  holding_raised x =
      ap₂ first_latest (q.new_surveys x) (q.new_surveys x) ∙ first_latest_raised k (surveys_of x s.surveys) (surveys_of x s.surveys)

  module _ (choice own : Choice) (width : ℕ) where
    -- what is to be shown of a command
    abbrev Told : Command → Type 0
    Told c = RaisedAnswer one s (record { command = c; answer = answer own s c; width = width }) (answer choice s' (raise_command by c))

    -- a command that is neither 0F nor 0C
    ordinary : (c : Command) → command_byte c ≢ 0x0F → command_byte c ≢ 0x0C
        → answer_fields (answer choice s' (raise_command by c)) ≡ raise_fields by (answer_fields (answer own s c)) → Told c
    ordinary c no_share no_routes e =
        record { raised = λ x y. e; share = λ b. absurd (no_share b); routes = λ b. absurd (no_routes b) }

    -- the cabinet that a command names first is known
    cabinet_known_lem : (a : ℕ) (rest : List Field) → all_in (cabinet_known g) (cabinet a ∷ rest) ≡ true → a < g.vertices
    unfolding all_in cabinet_known
    cabinet_known_lem a rest e = ltb_lt a g.vertices (and_left (ltb a g.vertices) _ e)

    span_known_lem : (x : ℕ) (rest : List Field) → all_in (span_known g) (span x ∷ rest) ≡ true → x < edge_count g
    unfolding all_in span_known
    span_known_lem x rest e = ltb_lt x (edge_count g) (and_left (ltb x (edge_count g)) _ e)

    -- an added span leaves the network proper
    proper_with : (c : Command) (e : Edge) → addition c ≡ edge e → refusal_of caps s c ≡ none → Proper (add_edge g e)
    unfolding after after_addition after_recording feed enter_edge
    proper_with c e adds accepted =
        subst (λ (a : Addition). Proper (feed s.book a).network) adds (sound_after caps s c w.second_sound accepted).laws.proper

    -- the routes that a 0C is answered with are two that serve there, raised
    routes_raised : Serves one.book.network.rule choice → (a b : ℕ) → refusal_of caps s (routes_between a b) ≡ none
        → ServeBack two rule a b (choice s'.book.network (m + a) (m + b))
    routes_raised serves a b e =
        let asked = routes_asked caps s a b e in
        subst (λ (h : Network). ServeBack two rule a b (choice h (m + a) (m + b))) (sym (network_is w q))
        (serve_back two rule a b (choice both (m + a) (m + b))
        (serves both (unfold beside in refl) (beside_proper two) (m + a) (m + b)
        (unfold beside in omega (arith, asked.first_known)) (unfold beside in omega (arith, asked.second_known))
        (eqb_raised m a b ∙ asked.different) (bridge_block_of_second two rule a b ∙ asked.shared)))

    -- So every command is answered.
    pub told_raised : Serves one.book.network.rule choice → (c : Command) → refusal_of caps s c ≡ none → Told c
    unfolding answer answer_to raise_command with_operands raise_fields raise_field raise_item number_in operand_in forms form command_byte facts asks operands_of cabinets_known spans_known answer_fields plain_fields counts_of raise_edge edge_between edge_in_duct feed addition addition_of
    told_raised serves add_cabinet e =
        ordinary add_cabinet (λ b. absurd (omega (arith, b))) (λ b. absurd (omega (arith, b)))
        (ap (λ (n : ℕ). byte 0x81 ∷ cabinet n ∷ []) (vertices_are w q))
    told_raised serves (add_span a b) e =
        ordinary (add_span a b) (λ b. absurd (omega (arith, b))) (λ b. absurd (omega (arith, b)))
        (span_answer_raised (edge_between a b) (proper_with (add_span a b) (edge_between a b) refl e))
    told_raised serves (district_name a) e =
        ordinary (district_name a) (λ b. absurd (omega (arith, b))) (λ b. absurd (omega (arith, b)))
        (ap (λ (x : Group). answer_fields (plain (district_is x)))
        (component_of_raised a (cabinet_known_lem a [] ((not_refused_exactly caps s (district_name a)).0 e).cabinets_known_lem)))
    told_raised serves (ring_name a) e =
        ordinary (ring_name a) (λ b. absurd (omega (arith, b))) (λ b. absurd (omega (arith, b)))
        (ap (λ (x : Group). answer_fields (plain (ring_is x)))
        (bridge_block_of_raised a (cabinet_known_lem a [] ((not_refused_exactly caps s (ring_name a)).0 e).cabinets_known_lem)))
    told_raised serves (shared_mesh a b) e =
        ordinary (shared_mesh a b) (λ b. absurd (omega (arith, b))) (λ b. absurd (omega (arith, b))) (mesh_raised a b)
    told_raised serves (sole_spans a b) e =
        ordinary (sole_spans a b) (λ b. absurd (omega (arith, b))) (λ b. absurd (omega (arith, b)))
        (ap (λ (l : List ℕ). answer_fields (plain (sole_spans_are l)))
        (ap (λ (h : Network). bridges_between h (m + a) (m + b)) (network_is w q) ∙ bridges_of_second two rule a b)
        ∙ sole_spans_raised by (bridges_between g a b))
    told_raised serves (cut_cabinets a b) e =
        ordinary (cut_cabinets a b) (λ b. absurd (omega (arith, b))) (λ b. absurd (omega (arith, b)))
        (ap (λ (l : List ℕ). answer_fields (plain (cut_cabinets_are l)))
        (ap (λ (h : Network). cuts_between h (m + a) (m + b)) (network_is w q) ∙ cuts_of_second two rule a b)
        ∙ cut_cabinets_raised by (cuts_between g a b))
    told_raised serves (is_sole x) e =
        ordinary (is_sole x) (λ b. absurd (omega (arith, b))) (λ b. absurd (omega (arith, b)))
        (ap (λ b. answer_fields (plain (sole_is b)))
        (ap (λ (h : Network). bridge h (k + x)) (network_is w q)
        ∙ bridge_of_second two rule x (span_known_lem x [] ((not_refused_exactly caps s (is_sole x)).0 e).spans_known_lem)))
    told_raised serves (mark_exchange a) e =
        ordinary (mark_exchange a) (λ b. absurd (omega (arith, b))) (λ b. absurd (omega (arith, b))) refl
    told_raised serves (holds_exchange a) e =
        ordinary (holds_exchange a) (λ b. absurd (omega (arith, b))) (λ b. absurd (omega (arith, b)))
        (ap (λ b. answer_fields (plain (exchange_held b)))
        (ring_holds_raised a (cabinet_known_lem a [] ((not_refused_exactly caps s (holds_exchange a)).0 e).cabinets_known_lem)))
    told_raised serves (add_duct_span a b d) e =
        ordinary (add_duct_span a b d) (λ b. absurd (omega (arith, b))) (λ b. absurd (omega (arith, b)))
        (span_answer_raised (edge_in_duct a b d) (proper_with (add_duct_span a b d) (edge_in_duct a b d) refl e))
    told_raised serves (routes_between a b) e =
        let back = routes_raised serves a b e in
        record {
          raised = λ x y. absurd (y refl);
          share = λ b. absurd (omega (arith, b));
          routes = λ c. record {
            pair = back.pair;
            serves = back.serves;
            raised = ap (λ (r : Routes). answer_fields (plain (routes_answer r))) back.is ∙ routes_fields_raised by back.pair;
          };
        }
    told_raised serves (record_length x day metres) e =
        ordinary (record_length x day metres) (λ b. absurd (omega (arith, b))) (λ b. absurd (omega (arith, b))) refl
    told_raised serves (span_length x) e =
        ordinary (span_length x) (λ b. absurd (omega (arith, b))) (λ b. absurd (omega (arith, b)))
        (ap (λ (p : Plain). answer_fields (plain p))
        (ap length_answer (holding_raised x) ∙ length_raised k (holding s.surveys x))
        ∙ length_stays by (holding s.surveys x))
    told_raised serves exchange_share e =
        record {
          raised = λ x y. absurd (x refl);
          share = λ b. ap (λ (n : ℕ). plain (share_is n)) share_of_both;
          routes = λ b. absurd (omega (arith, b));
        }
