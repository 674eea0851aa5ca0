-- Demand 2 of the answers, and what those about sizes, exchanges, routes and lengths say: what each answer says of the network, in every state whose book
-- keeps the laws of naming, under a choice of routes that serves.
use mathlib.Core.Bool.{true, false}
use mathlib.Core.List.{List, []}
use mathlib.Core.Logic.{◌↔◌}
use mathlib.Core.Option.{Option, none, some}
use mathlib.Core.Path.{◌≡◌, refl, sym, ◌∙◌, ap, subst₂}
use Prim.Native.Nat.{ℕ, ◌<◌}
use lib.Dec.{eqb}
use Rattle.graph.specs.Below.{count}
use Rattle.graph.specs.Network.{Network, edge_count}
use Rattle.graph.specs.Groups.{component, bridge, bridge_block}
use Rattle.graph.specs.Block.{shared_block, on_block}
use Rattle.graph.specs.Between.{bridges_between, cuts_between}
use Rattle.graph.specs.Route.{Choice, Serves, serve}
use Rattle.graph.proofs.Truth.{false_of_not, not_both}
use Rattle.graph.proofs.SharedBlock.{shared_block_some, shared_block_none, shared_block_found, shared_block_is}
use Rattle.naming.specs.Rename.{size, name_of}
use Rattle.naming.specs.Book.{Book}
use Rattle.naming.specs.Lookup.{Group, group_of, component_of, bridge_block_of, over_bridge_blocks}
use Rattle.naming.specs.Survey.{Survey, surveys_of, holding, Latest}
use Rattle.naming.specs.State.{State}
use Rattle.naming.proofs.Book.{component_laws, bridge_block_laws, BookLaws}
use Rattle.naming.proofs.Lookup.{look_up_exactly, size_by_name, sizes_add_up}
use Rattle.naming.proofs.Surveys.{holding_exactly, exactly_holding, holding_none, none_holding}
use Rattle.commands.specs.Command.{district_name, ring_name, shared_mesh, sole_spans, cut_cabinets, is_sole, holds_exchange, routes_between, span_length, exchange_share}
use Rattle.commands.specs.Answer.{Plain, plain, district_is, ring_is, mesh_shared, no_mesh_shared, sole_spans_are, cut_cabinets_are, sole_is, exchange_held, routes_are, length_is, no_length, share_is}
use Rattle.commands.specs.Exchange.{ring_holds_exchange, with_exchange, thousandths, share_with_exchange}
use Rattle.commands.specs.Facts.{asks, mesh_answer, routes_answer, length_answer, facts, answer_to, answer}
use Rattle.commands.proofs.Cases.{impossible}
use Rattle.commands.proofs.Exchange.{ExchangeWith, holds_exchange_exactly}
use Rattle.commands.proofs.Thousandths.{Nearest, share_exactly, share_of-nothing}
use Rattle.commands.proofs.Routes.{InOneRing, given_served}

-- edge s is of a block that has an edge at each of the two vertices
pub record OfSharedBlock (g : Network) (x y s : ℕ) : Type 0 where
  pub known : s < edge_count g
  pub at_first : on_block g s x ≡ true
  pub at_second : on_block g s y ≡ true

-- What the answers to queries say of the state's network, its exchanges and its surveys.
pub record AnswersTell (choice : Choice) (s : State) : Type 0 where
  -- two 03 answers agree exactly if the cabinets share a component
  pub districts : (x y : ℕ) → x < s.book.network.vertices → y < s.book.network.vertices
      → (answer choice s (district_name x) ≡ answer choice s (district_name y)) ↔ (component s.book.network x y ≡ true)
  -- two 04 answers agree exactly if the cabinets share a bridge-block
  pub rings : (x y : ℕ) → x < s.book.network.vertices → y < s.book.network.vertices
      → (answer choice s (ring_name x) ≡ answer choice s (ring_name y)) ↔ (bridge_block s.book.network x y ≡ true)
  -- a 03 answer is the cabinet's district name and how many cabinets share its component; a 04 answer its ring name and how many share its
  -- bridge-block
  pub district : (x : ℕ)
      → answer choice s (district_name x)
      ≡ plain
      (district_is (record { name = name_of s.book.components x; size = count s.book.network.vertices (component s.book.network x) }))
  pub ring : (x : ℕ)
      → answer choice s (ring_name x)
      ≡ plain
      (ring_is (record { name = name_of s.book.bridge_blocks x; size = count s.book.network.vertices (bridge_block s.book.network x) }))
  -- the size in a 03 or 04 answer is how many cabinets have the name in it
  pub district_size : (x : ℕ) (g : Group) → x < s.book.network.vertices → answer choice s (district_name x) ≡ plain (district_is g)
      → g.size ≡ count s.book.network.vertices (λ y. eqb (name_of s.book.components y) g.name)
  pub ring_size : (x : ℕ) (g : Group) → x < s.book.network.vertices → answer choice s (ring_name x) ≡ plain (ring_is g)
      → g.size ≡ count s.book.network.vertices (λ y. eqb (name_of s.book.bridge_blocks y) g.name)
  -- the sizes in the 04 answers for the rings of a district, each ring counted once, add up to the size in the 03 answer
  pub sizes : (x : ℕ) (g : Group) (told : ℕ → Group) → answer choice s (district_name x) ≡ plain (district_is g)
      → ((y : ℕ) → y < s.book.network.vertices → answer choice s (ring_name y) ≡ plain (ring_is (told y)))
      → over_bridge_blocks s.book.network x (λ y. (told y).size) ≡ g.size
  -- the 05 answer for two different cabinets has byte 1 and a name exactly if it is the name of an edge of a block with an edge at each
  pub mesh : (x y name : ℕ) → eqb x y ≡ false
      → (answer choice s (shared_mesh x y) ≡ plain (mesh_shared name))
      ↔ ((t : ℕ) × OfSharedBlock s.book.network x y t × (name_of s.book.blocks t ≡ name))
  -- and every edge of such a block has that name
  pub mesh_name : (x y t : ℕ) → eqb x y ≡ false → OfSharedBlock s.book.network x y t
      → answer choice s (shared_mesh x y) ≡ plain (mesh_shared (name_of s.book.blocks t))
  -- it has byte 0 exactly if there is no such block
  pub no_mesh : (x y : ℕ)
      → (answer choice s (shared_mesh x y) ≡ plain no_mesh_shared) ↔ ((t : ℕ) → OfSharedBlock s.book.network x y t → ⊥)
  -- 06, 07 and 08 are the bridges between the cabinets, the cut vertices between them, and the bridge test
  pub sole_spans_lem : (x y : ℕ) → answer choice s (sole_spans x y) ≡ plain (sole_spans_are (bridges_between s.book.network x y))
  pub cut_cabinets_lem : (x y : ℕ) → answer choice s (cut_cabinets x y) ≡ plain (cut_cabinets_are (cuts_between s.book.network x y))
  pub sole : (x : ℕ) → answer choice s (is_sole x) ≡ plain (sole_is (bridge s.book.network x))
  -- the 0A answer has byte 1 exactly if an exchange shares the cabinet's ring, and byte 0 exactly if none does
  pub exchange : (x : ℕ) → (answer choice s (holds_exchange x) ≡ plain (exchange_held true)) ↔ ExchangeWith s x
  pub no_exchange_lem : (x : ℕ) → (answer choice s (holds_exchange x) ≡ plain (exchange_held false)) ↔ (ExchangeWith s x → ⊥)
  -- the 0C answer is the two routes of the choice
  pub routes : (x y : ℕ) → answer choice s (routes_between x y) ≡ plain (routes_answer (choice s.book.network x y))
  -- and whatever two lists it is, for two different cabinets of one ring they serve them
  pub routes_serve : (x y : ℕ) → InOneRing s.book.network x y → (first second : List ℕ)
      → answer choice s (routes_between x y) ≡ plain (routes_are first second)
      → serve s.book.network x y (record { first = first; second = second }) ≡ true
  -- the 0E answer has byte 1 and so many metres exactly if these are the metres of the span's record of the latest day, the first of that day
  pub span_length_lem : (x metres : ℕ)
      → (answer choice s (span_length x) ≡ plain (length_is metres)) ↔ ((r : Survey) × Latest (surveys_of x s.surveys) r × (r.metres ≡ metres))
  -- it has byte 0 exactly while the span has no record
  pub no_length_lem : (x : ℕ) → (answer choice s (span_length x) ≡ plain no_length) ↔ (surveys_of x s.surveys ≡ [])
  -- the 0F answer is m exactly if no number of thousandths is nearer to the share of all cabinets whose ring holds an exchange and, where
  -- another is as near, m is even
  pub share : (m : ℕ) → 0 < s.book.network.vertices
      → (answer choice s exchange_share ≡ plain (share_is m)) ↔ Nearest (with_exchange s) s.book.network.vertices m
  -- and 0 where there is no cabinet
  pub share_of_none : s.book.network.vertices ≡ 0 → answer choice s exchange_share ≡ plain (share_is 0)

-- the shared block that is found has an edge at each
found_shared : (g : Network) (x y t : ℕ) → shared_block g x y ≡ some t → OfSharedBlock g x y t
found_shared g x y t e =
    let r = shared_block_some g x y t e in
    record { known = r.known; at_first = r.on_first; at_second = r.on_second }

-- What 05 says of a book, by the shared block that is found.
module _ (b : Book) (laws : BookLaws b) (x y : ℕ) where
  told : Plain
  told = mesh_answer b (shared_block b.network x y)

  name_of_shared : (t : ℕ) → eqb x y ≡ false → OfSharedBlock b.network x y t → told ≡ mesh_shared (name_of b.blocks t)
  unfolding told mesh_answer
  name_of_shared t d o =
      let g = b.network in
      let (u, e) = shared_block_found g x y t o.at_first o.at_second in
      let one = shared_block_is g laws.proper x y t u d o.at_first o.at_second e in
      rw e (ap mesh_shared (sym (laws.blocks_named.one_name t u o.known (found_shared g x y u e).known one)))

  shared_by_name : (name : ℕ) → told ≡ mesh_shared name
      → (t : ℕ) × OfSharedBlock b.network x y t × (name_of b.blocks t ≡ name)
  unfolding told mesh_answer
  shared_by_name name = go (shared_block b.network x y) refl
    where
      go : (o : Option ℕ) → shared_block b.network x y ≡ o → mesh_answer b o ≡ mesh_shared name
          → (t : ℕ) × OfSharedBlock b.network x y t × (name_of b.blocks t ≡ name)
      go none e q = impossible (cc)
      go (some t) e q = (t, found_shared b.network x y t e, cc)

  no_shared_exactly : (told ≡ no_mesh_shared) ↔ ((t : ℕ) → OfSharedBlock b.network x y t → ⊥)
  unfolding told mesh_answer
  no_shared_exactly = go (shared_block b.network x y) refl
    where
      go : (o : Option ℕ) → shared_block b.network x y ≡ o
          → (mesh_answer b o ≡ no_mesh_shared) ↔ ((t : ℕ) → OfSharedBlock b.network x y t → ⊥)
      go none e = (λ q t o. not_both o.at_second (shared_block_none b.network x y e t o.at_first), λ f. refl)
      go (some t) e = (λ q. impossible (cc), λ f. absurd (f t (found_shared b.network x y t e)))

-- the metres that 0E tells are those of the record that holds
told_of_lem : (records : List Survey) (x metres : ℕ) (o : Option Survey) → holding records x ≡ o → length_answer o ≡ length_is metres
    → (r : Survey) × Latest (surveys_of x records) r × (r.metres ≡ metres)
unfolding length_answer
told_of_lem records x metres none e q = impossible (cc)
told_of_lem records x metres (some r) e q = (r, holding_exactly records x r e, cc)

-- where it tells none, the span has no record
not-told_of : (records : List Survey) (x : ℕ) (o : Option Survey) → holding records x ≡ o → length_answer o ≡ no_length → surveys_of x records ≡ []
unfolding length_answer
not-told_of records x none e q = holding_none records x e
not-told_of records x (some r) e q = impossible (cc)

-- so it is in every state whose book keeps the laws of naming, under every choice that serves
pub answers_tell : (choice : Choice) (s : State) → BookLaws s.book → Serves s.book.network.rule choice → AnswersTell choice s
unfolding answer answer_to facts asks component_of bridge_block_of routes_answer length_answer told share_with_exchange
answers_tell choice s laws serves =
    record {
      districts = λ x y h k.
          let exactly = look_up_exactly _ _ (component_laws.equivalent s.book.network) _ laws.components_named x y h k in
          (λ q. exactly.0 (cc), λ one. ap (λ g. plain (district_is g)) (exactly.1 one));
      rings = λ x y h k.
          let exactly = look_up_exactly _ _ (bridge_block_laws.equivalent s.book.network) _ laws.bridge_blocks_named x y h k in
          (λ q. exactly.0 (cc), λ one. ap (λ g. plain (ring_is g)) (exactly.1 one));
      district = λ x. unfold group_of size in refl;
      ring = λ x. unfold group_of size in refl;
      district_size = λ x g h q.
          let is : component_of s.book x ≡ g = cc in
          rw is at (size_by_name _ _ (component_laws.equivalent s.book.network) _ laws.components_named x h);
      ring_size = λ x g h q.
          let is : bridge_block_of s.book x ≡ g = cc in
          rw is at (size_by_name _ _ (bridge_block_laws.equivalent s.book.network) _ laws.bridge_blocks_named x h);
      sizes = λ x g told q each.
          let is : component_of s.book x ≡ g = cc in
          sizes_add_up s.book x (λ y. (told y).size) (λ y h.
          let one : bridge_block_of s.book y ≡ told y = cc (each y h) in
          ap (λ (r : Group). r.size) one)
          ∙ ap (λ (r : Group). r.size) is;
      mesh = λ x y name d. (
        λ q. shared_by_name s.book laws x y name (cc),
        λ t. ap plain (name_of_shared s.book laws x y t.0 d t.1 ∙ ap mesh_shared t.2),
      );
      mesh_name = λ x y t d o. ap plain (name_of_shared s.book laws x y t d o);
      no_mesh = λ x y. (
        λ q. (no_shared_exactly s.book laws x y).0 (cc),
        λ f. ap plain ((no_shared_exactly s.book laws x y).1 f),
      );
      sole_spans_lem = λ x y. refl;
      cut_cabinets_lem = λ x y. refl;
      sole = λ x. refl;
      exchange = λ x. (
        λ q. (holds_exchange_exactly s x).0 (cc),
        λ e. ap (λ b. plain (exchange_held b)) ((holds_exchange_exactly s x).1 e),
      );
      no_exchange_lem = λ x. (
        λ q e. not_both ((holds_exchange_exactly s x).1 e) (cc),
        λ f. ap (λ b. plain (exchange_held b)) (false_of_not (ring_holds_exchange s x) (λ h. f ((holds_exchange_exactly s x).0 h))),
      );
      routes = λ x y. refl;
      routes_serve = λ x y asked first second q.
          let same_first : (choice s.book.network x y).first ≡ first = cc in
          let same_second : (choice s.book.network x y).second ≡ second = cc in
          subst₂ (λ f g. serve s.book.network x y (record { first = f; second = g }) ≡ true) same_first same_second
          (given_served choice s.book.network laws.proper serves x y asked).they_serve;
      span_length_lem = λ x metres. (
        λ q. told_of_lem s.surveys x metres (holding s.surveys x) refl (cc),
        λ m. ap (λ o. plain (length_answer o)) (exactly_holding s.surveys x m.0 m.1) ∙ ap (λ n. plain (length_is n)) m.2,
      );
      no_length_lem = λ x. (
        λ q. not-told_of s.surveys x (holding s.surveys x) refl (cc),
        λ none. ap (λ o. plain (length_answer o)) (none_holding s.surveys x none),
      );
      share = λ m some.
          let exactly = share_exactly (with_exchange s) s.book.network.vertices m some in
          (λ q. exactly.0 (cc), λ near. ap (λ n. plain (share_is n)) (exactly.1 near));
      share_of_none = λ none. ap (λ n. plain (share_is n)) (ap (thousandths (with_exchange s)) none ∙ share_of-nothing (with_exchange s));
    }
