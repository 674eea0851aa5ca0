-- Two networks beside each other (document 02, request 9): the second's vertices and edges have the numbers behind the first's. Both are found
-- in it again, and nothing of one shares a group with anything of the other.
use mathlib.Core.Bool.{true, false, cond, ◌||◌}
use mathlib.Core.List.{List, [], ◌∷◌, ◌++◌, map, map-append, append_assoc}
use mathlib.Core.Logic.{◌⊎◌, inl, inr, ⊎_elim}
use mathlib.Core.Path.{◌≡◌, refl, sym, ◌∙◌, ap, ap₂}
use Prim.Native.Nat.{ℕ, suc, ◌+◌, ◌-◌, ◌<◌, ◌≤◌}
use native.Mathlib.Nat.{add-suc, add-sub_of_le}
use native.Mathlib.Omega.{arith}
use lib.Dec.{eqb, leb, ltb}
use lib.ListN.{length, length-append, length-map, get_or-append}
use lib.Seq.{get_or-append-add}
use Rattle.graph.specs.Network.{Network, Edge, Rule, MateRule, Proper, one_duct, edge, edge_count, touches, parallel, add_vertex, add_edge, mates}
use Rattle.graph.specs.Groups.{component, bridge_block, outlive_two}
use Rattle.graph.specs.Block.{link, block}
use Rattle.graph.proofs.Truth.{true_or_false, false_of_not, bool_ext, or_neither, not_both, eqb_eq, eqb_same, ne_eqb, lt-ltb, ltb_lt, ge_ltb, ltb_ge, leb_le, le-leb}
use Rattle.graph.proofs.Below.{Below}
use Rattle.graph.proofs.BelowSum.{below_sum}
use Rattle.graph.proofs.Mates.{mates_refl, component_swap}
use Rattle.graph.proofs.MappedLists.{eqb_mapped, entry_mapped}
use Rattle.graph.proofs.Walks.{joins-ends}
use Rattle.graph.proofs.Joins.{joins-touches}
use Rattle.graph.proofs.Links.{Link, link-parts}
use Rattle.graph.proofs.Block.{block_least}
use Rattle.graph.proofs.BridgeBlock.{bridge_block-component}
use Rattle.graph.proofs.TwoLosses.{outlive_two-component}
use Rattle.graph.proofs.Image.{Image, component_image, component_image_closed}
use Rattle.graph.proofs.ImageBlocks.{bridge_block_image, block_image, block_image_any}
use Rattle.graph.proofs.ImageLosses.{outlive_two_image}

-- an edge with its ends raised
unfoldable pub raise_edge : ℕ → Edge → Edge
raise_edge m e = record { left = m + e.left; right = m + e.right; duct = e.duct }

-- Network g behind network b.
unfoldable pub beside : Network → Network → Network
beside b g =
    record {
      rule = b.rule;
      vertices = b.vertices + g.vertices;
      edges = b.edges ++ map (raise_edge b.vertices) g.edges;
    }

-- raised numbers are equal exactly if the numbers are
pub eqb_raised : (m x y : ℕ) → eqb (m + x) (m + y) ≡ eqb x y
eqb_raised m x y = eqb_mapped (λ z. m + z) x y (λ e. omega (arith, e))

-- and in order exactly if the numbers are
pub leb_raised : (m x y : ℕ) → leb (m + x) (m + y) ≡ leb x y
leb_raised m x y =
    bool_ext (leb (m + x) (m + y)) (leb x y)
    (λ e. le-leb x y (omega (arith, leb_le (m + x) (m + y) e))) (λ e. le-leb (m + x) (m + y) (omega (arith, leb_le x y e)))

pub ltb_raised : (m x y : ℕ) → ltb (m + x) (m + y) ≡ ltb x y
ltb_raised m x y = ap (λ z. leb z (m + y)) (sym (add-suc m x)) ∙ leb_raised m (suc x) y

-- The rule has raised edges lost together exactly if it has the edges lost together.
abbrev pub Raises : Rule → Type 0
Raises rule = (m : ℕ) (e f : Edge) → rule (raise_edge m e) (raise_edge m f) ≡ rule e f

-- the rule of one duct does
pub one_duct_raises : Raises one_duct
unfolding one_duct parallel raise_edge
one_duct_raises m e f =
    rw (
      eqb_raised m e.left f.left,
      eqb_raised m e.right f.right,
      eqb_raised m e.left f.right,
      eqb_raised m e.right f.left,
    )

-- a vertex more in the second
pub vertex_beside : (b g : Network) → add_vertex (beside b g) ≡ beside b (add_vertex g)
unfolding add_vertex beside
vertex_beside b g = rw (add-suc b.vertices g.vertices)

-- What is asked of two networks: proper, and under one rule, which has raised edges lost together as it has the edges.
pub record Beside (b g : Network) : Type 0 where
  pub one_rule : g.rule ≡ b.rule
  pub raises : Raises b.rule
  pub first_proper : Proper b
  pub second_proper : Proper g

module _ (b g : Network) where
  pub count_beside : edge_count (beside b g) ≡ edge_count b + edge_count g
  unfolding edge_count beside
  count_beside = length-append b.edges _ ∙ ap (λ n. length b.edges + n) (length-map g.edges (raise_edge b.vertices))

  pub edge_of_first : (s : ℕ) → s < edge_count b → edge (beside b g) s ≡ edge b s
  unfolding edge_count beside edge
  edge_of_first s k = get_or-append b.edges _ _ s k

  pub edge_of_second : (s : ℕ) → s < edge_count g → edge (beside b g) (edge_count b + s) ≡ raise_edge b.vertices (edge g s)
  unfolding edge_count beside edge
  edge_of_second s k = get_or-append-add b.edges _ s _ ∙ entry_mapped (raise_edge b.vertices) g.edges s _ _ k

  -- an edge more in the second
  pub edge_beside : (e : Edge) → add_edge (beside b g) (raise_edge b.vertices e) ≡ beside b (add_edge g e)
  unfolding add_edge beside
  edge_beside e =
      ap (λ (es : List Edge). record { rule = b.rule; vertices = b.vertices + g.vertices; edges = es })
      (append_assoc b.edges (map (raise_edge b.vertices) g.edges) _
      ∙ ap (λ (es : List Edge). b.edges ++ es) (sym (map-append (raise_edge b.vertices) g.edges (e ∷ []))))

  -- what holds of the edges of the first and of those of the second holds of all
  each_edge_beside : (P : ℕ → Type 0) → ((s : ℕ) → s < edge_count b → P s) → ((s : ℕ) → s < edge_count g → P (edge_count b + s))
      → (r : ℕ) → r < edge_count (beside b g) → P r
  each_edge_beside P first second r l = below_sum P (edge_count b) (edge_count g) first second r (rw count_beside at l)

-- Vertices of the first keep their numbers; what is no vertex of it is put behind both.
unfoldable pub in_first : Network → Network → ℕ → ℕ
in_first b g x = cond (ltb x b.vertices) x (g.vertices + x)

-- a vertex of the first
known_in_first : (b g : Network) (x : ℕ) → x < b.vertices → in_first b g x ≡ x
unfolding in_first
known_in_first b g x k = rw (lt-ltb x b.vertices k)

-- what is no vertex of it
unknown_in_first : (b g : Network) (x : ℕ) → b.vertices ≤ x → in_first b g x ≡ g.vertices + x
unfolding in_first
unknown_in_first b g x k = rw (ge_ltb x b.vertices k)

module _ {b g : Network} (w : Beside b g) where
  abbrev both : Network
  both = beside b g

  abbrev m : ℕ
  m = b.vertices

  abbrev k : ℕ
  k = edge_count b

  -- an edge of the first ends at no vertex of the second
  pub first_away : (s x : ℕ) → s < k → touches (edge both s) (m + x) ≡ false
  first_away s x l =
      rw (edge_of_first b g s l)
      (unfold touches in
      or_neither
      (ne_eqb (edge b s).left (m + x) (λ e. absurd (omega (arith, e, w.first_proper.left_known s l))))
      (ne_eqb (edge b s).right (m + x) (λ e. absurd (omega (arith, e, w.first_proper.right_known s l)))))

  -- and an edge of the second at no vertex of the first
  second_away : (s x : ℕ) → s < edge_count g → touches (edge both (k + s)) (in_first b g x) ≡ false
  second_away s x l = go (true_or_false (ltb x m))
    where
      away : (y : ℕ) → (y < m) ⊎ (m + g.vertices ≤ y) → touches (edge both (k + s)) y ≡ false
      away y out =
          rw (edge_of_second b g s l)
          (unfold touches raise_edge in
          let left = w.second_proper.left_known s l in
          let right = w.second_proper.right_known s l in
          or_neither
          (ne_eqb (m + (edge g s).left) y (λ e. ⊎_elim (λ (o : y < m). absurd (omega (arith, e, o))) (λ (o : m + g.vertices ≤ y). absurd (omega (arith, e, o, left))) out))
          (ne_eqb (m + (edge g s).right) y (λ e. ⊎_elim (λ (o : y < m). absurd (omega (arith, e, o))) (λ (o : m + g.vertices ≤ y). absurd (omega (arith, e, o, right))) out)))

      go : (ltb x m ≡ true) ⊎ (ltb x m ≡ false) → touches (edge both (k + s)) (in_first b g x) ≡ false
      go (inl e) = let l = ltb_lt x m e in rw (known_in_first b g x l) (away x (inl l))
      go (inr e) = let l = ltb_ge x m e in rw (unknown_in_first b g x l) (away (g.vertices + x) (inr (omega (arith, l))))

  -- edges of the second are mates in both exactly if they are there
  pub mates_of_second : (s t : ℕ) → s < edge_count g → t < edge_count g → mates both (k + s) (k + t) ≡ mates g s t
  unfolding mates beside
  mates_of_second s t l l' =
      ap₂ ◌||◌ (eqb_raised k s t)
      (ap₂ b.rule (edge_of_second b g s l) (edge_of_second b g t l')
      ∙ w.raises m (edge g s) (edge g t) ∙ ap (λ (rule : Rule). rule (edge g s) (edge g t)) (sym w.one_rule))

  -- what ends at a vertex of the second is an edge of it
  pub at_second : (r x : ℕ) → r < edge_count both → touches (edge both r) (m + x) ≡ true → Below (edge_count g) (λ s. eqb r (k + s))
  at_second r x =
      each_edge_beside b g (λ r. touches (edge both r) (m + x) ≡ true → Below (edge_count g) (λ s. eqb r (k + s)))
      (λ r l t. absurd (not_both t (first_away r x l)))
      (λ s l t. record { at = s; below = l; passes = eqb_same (k + s) }) r

  -- and what ends at a vertex of the first, one of that
  at_first : (r x : ℕ) → r < edge_count both → touches (edge both r) (in_first b g x) ≡ true → r < k
  at_first r x =
      each_edge_beside b g (λ r. touches (edge both r) (in_first b g x) ≡ true → r < k)
      (λ r l t. l) (λ s l t. absurd (not_both t (second_away s x l))) r

  -- The second is found again with its numbers raised.
  pub second_image : Image g both (λ x. m + x) (λ s. k + s)
  second_image =
      record {
        one_vertex = λ x y e. omega (arith, e);
        edge_known = λ s l. omega (arith, l, count_beside b g);
        ends_go = λ s l. rw (edge_of_second b g s l) (unfold raise_edge in joins-ends (raise_edge m (edge g s)));
        mates_go = mates_of_second;
        no_other = λ r x l t.
            let s = at_second r x l t in
            record { at = s.at; below = s.below; passes = ap (λ q. mates both q (k + s.at)) (eqb_eq r (k + s.at) s.passes) ∙ mates_refl both (k + s.at) };
      }

  -- different numbers are different there
  one_in_first : (x y : ℕ) → in_first b g x ≡ in_first b g y → x ≡ y
  one_in_first x y e = go (true_or_false (ltb x m)) (true_or_false (ltb y m))
    where
      go : (ltb x m ≡ true) ⊎ (ltb x m ≡ false) → (ltb y m ≡ true) ⊎ (ltb y m ≡ false) → x ≡ y
      go (inl p) (inl q) = sym (known_in_first b g x (ltb_lt x m p)) ∙ e ∙ known_in_first b g y (ltb_lt y m q)
      go (inl p) (inr q) =
          let l = ltb_lt x m p in
          let l' = ltb_ge y m q in
          absurd (omega (arith, l, l', sym (known_in_first b g x l) ∙ e ∙ unknown_in_first b g y l'))
      go (inr p) (inl q) =
          let l = ltb_ge x m p in
          let l' = ltb_lt y m q in
          absurd (omega (arith, l, l', sym (unknown_in_first b g x l) ∙ e ∙ known_in_first b g y l'))
      go (inr p) (inr q) = omega (arith, sym (unknown_in_first b g x (ltb_ge x m p)) ∙ e ∙ unknown_in_first b g y (ltb_ge y m q))

  -- The first is found again with its own numbers.
  pub first_image : Image b both (in_first b g) (λ s. s)
  unfolding beside
  first_image =
      record {
        one_vertex = one_in_first;
        edge_known = λ s l. omega (arith, l, count_beside b g);
        ends_go = λ s l.
            rw (
              edge_of_first b g s l,
              known_in_first b g (edge b s).left (w.first_proper.left_known s l),
              known_in_first b g (edge b s).right (w.first_proper.right_known s l),
            )
            (joins-ends (edge b s));
        mates_go = λ s t l l'. unfold mates in ap (λ c. eqb s t || c) (ap₂ b.rule (edge_of_first b g s l) (edge_of_first b g t l'));
        no_other = λ r x l t. record { at = r; below = at_first r x l t; passes = mates_refl both r };
      }

  -- both are proper beside each other
  pub beside_proper : Proper both
  unfolding beside
  beside_proper =
      record {
        left_known = λ s l. (ends s l).0;
        right_known = λ s l. (ends s l).1;
        no_loop = λ s l. (ends s l).2;
      }
    where
      P : ℕ → Type 0
      P s = ((edge both s).left < both.vertices) × ((edge both s).right < both.vertices) × (eqb (edge both s).left (edge both s).right ≡ false)

      ends : (s : ℕ) → s < edge_count both → P s
      ends =
          each_edge_beside b g P
          (λ s l.
          rw (edge_of_first b g s l)
          (omega (arith, w.first_proper.left_known s l), omega (arith, w.first_proper.right_known s l), w.first_proper.no_loop s l))
          (λ s l.
          rw (edge_of_second b g s l)
          (unfold raise_edge in (
            omega (arith, w.second_proper.left_known s l),
            omega (arith, w.second_proper.right_known s l),
            eqb_raised m _ _ ∙ w.second_proper.no_loop s l,
          )))

  -- an edge of the first ends at vertices of the first
  ends_in_first : (s c : ℕ) → s < k → touches (edge both s) c ≡ true → c < m
  ends_in_first s c l t =
      ⊎_elim (ltb_lt c m) (λ e. absurd (not_both (rw (sym (add-sub_of_le (ltb_ge c m e))) at t) (first_away s (c - m) l)))
      (true_or_false (ltb c m))

  -- edges that end at one vertex are of one network
  of_one : (s t c : ℕ) → t < edge_count both → touches (edge both s) c ≡ true → touches (edge both t) c ≡ true → s < k → t < k
  of_one s t c l at_s at_t first =
      at_first t c l (rw (known_in_first b g c (ends_in_first s c first at_s)) at_t)

  -- so linked edges are
  linked_of_one : (s t : ℕ) → s < edge_count both → t < edge_count both → link both s t ≡ true → ltb s k ≡ ltb t k
  linked_of_one s t l l' e =
      bool_ext (ltb s k) (ltb t k)
      (λ f. lt-ltb t k (of_one s t q.meeting l' at_s at_t (ltb_lt s k f)))
      (λ f. lt-ltb s k (of_one t s q.meeting l at_t at_s (ltb_lt t k f)))
    where
      q : Link both s t
      q = link-parts both s t e

      at_s : touches (edge both s) q.meeting ≡ true
      at_s = joins-touches (edge both s) q.meeting q.first q.first_ends

      at_t : touches (edge both t) q.meeting ≡ true
      at_t = joins-touches (edge both t) q.meeting q.second q.second_ends

  -- An edge of the first shares no block with an edge of the second.
  pub block_apart : (s t : ℕ) → s < k → block both s (k + t) ≡ false
  block_apart s t l =
      false_of_not (block both s (k + t)) (λ e.
      not_both
      (sym
      (block_least (λ s t. ltb s k ≡ ltb t k)
      (record { refl = λ s. refl; symm = λ s t e. sym e; trans = λ s t u e f. e ∙ f })
      both linked_of_one s (k + t) e)
      ∙ lt-ltb s k l)
      (ge_ltb (k + t) k (omega arith)))

  module _ (rule : MateRule b.rule) where
    abbrev pub rule_of_both : MateRule both.rule
    unfolding beside
    rule_of_both = rule

    pub rule_of_second : MateRule g.rule
    rule_of_second = rw w.one_rule rule

    -- A vertex of the first shares no component with a vertex of the second.
    pub component-apart : (x y : ℕ) → x < m → component both x (m + y) ≡ false
    component-apart x y l =
        false_of_not (component both x (m + y)) (λ e.
        let z = component_image_closed second_image rule_of_both y x (component_swap both (m + y) x ∙ e) in
        absurd (omega (arith, z.is, l)))

    -- nor a bridge-block
    pub bridge_block-apart : (x y : ℕ) → x < m → bridge_block both x (m + y) ≡ false
    bridge_block-apart x y l =
        false_of_not (bridge_block both x (m + y)) (λ e. not_both (bridge_block-component both x (m + y) e) (component-apart x y l))

    -- and they do not outlive two losses
    pub outlive_two-apart : (x y : ℕ) → x < m → outlive_two both x (m + y) ≡ false
    outlive_two-apart x y l =
        false_of_not (outlive_two both x (m + y)) (λ e. not_both (outlive_two-component both x (m + y) e) (component-apart x y l))

    -- Vertices of the first share a component exactly if they do in the first,
    pub component_of_first : (x y : ℕ) → x < m → y < m → component both x y ≡ component b x y
    component_of_first x y l l' =
        ap₂ (component both) (sym (known_in_first b g x l)) (sym (known_in_first b g y l')) ∙ component_image first_image rule_of_both x y

    -- and a bridge-block
    pub bridge_block_of_first : (x y : ℕ) → x < m → y < m → bridge_block both x y ≡ bridge_block b x y
    bridge_block_of_first x y l l' =
        ap₂ (bridge_block both) (sym (known_in_first b g x l)) (sym (known_in_first b g y l'))
        ∙ bridge_block_image first_image rule rule_of_both x y

    -- and outlive two losses exactly if they do in the first
    pub outlive_two_of_first : (x y : ℕ) → x < m → y < m → outlive_two both x y ≡ outlive_two b x y
    outlive_two_of_first x y l l' =
        ap₂ (outlive_two both) (sym (known_in_first b g x l)) (sym (known_in_first b g y l'))
        ∙ outlive_two_image first_image rule_of_both x y

    -- edges of it share a block exactly if they do in the first
    pub block_of_first : (s t : ℕ) → s < k → t < k → block both s t ≡ block b s t
    block_of_first = block_image first_image rule rule_of_both

    -- so it is with the second's
    pub component_of_second : (x y : ℕ) → component both (m + x) (m + y) ≡ component g x y
    component_of_second = component_image second_image rule_of_both

    pub bridge_block_of_second : (x y : ℕ) → bridge_block both (m + x) (m + y) ≡ bridge_block g x y
    bridge_block_of_second = bridge_block_image second_image rule_of_second rule_of_both

    pub outlive_two_of_second : (x y : ℕ) → outlive_two both (m + x) (m + y) ≡ outlive_two g x y
    outlive_two_of_second = outlive_two_image second_image rule_of_both

    -- whether there are such edges or not
    pub block_of_second : (s t : ℕ) → block both (k + s) (k + t) ≡ block g s t
    block_of_second =
        block_image_any second_image rule_of_second rule_of_both (λ s t e. omega (arith, e)) (λ s l. omega (arith, l, count_beside b g))
