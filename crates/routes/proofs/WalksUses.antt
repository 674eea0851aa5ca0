-- The two bits of edges' words: what one store, a store after another and no store set, that the lists stand meanwhile, and what is done
-- for one edge that may be another mate.
use mathlib.Core.Bool.{Bool, true, false, cond, ◌&&◌, ◌||◌, and-true, and-false}
use mathlib.Core.List.{List}
use mathlib.Core.Logic.{◌⊎◌, inl, inr}
use mathlib.Core.Path.{◌≡◌, refl, sym, ◌∙◌, ap}
use Prim.Native.Nat.{ℕ, ◌/◌, ◌%◌, ◌<◌}
use native.Mathlib.Omega.{arith}
use lib.Dec.{eqb}
use Rattle.graph.specs.Network.{Network, edge_count, mates}
use Rattle.graph.proofs.Truth.{true_or_false, eqb_eq, eqb_ne}
use Rattle.numbers.specs.declared.Shape.{Shape}
use Rattle.forest.specs.Promise.{Holds, network_in, edge_scratch, edges_held, edges_fit, vertices_fit, EdgeScratchStored}
use Rattle.routes.specs.Inside.Frame.{head_column, edges_only}
use Rattle.routes.specs.declared.uses.Use.{Use}
use Rattle.routes.specs.Inside.Lists.{bits_of, Linked}
use Rattle.routes.specs.Inside.Walks.{with_use, UsesSet, is_other_mate}
use Rattle.routes.proofs.UseBits.{bits_small}
use Rattle.routes.proofs.Frames.{only_refl, only_trans, only_edge}

-- a word with other bits has the same entries
use_entries : (word : ℕ) (used : Use) → with_use word used / 4 ≡ word / 4
unfolding with_use
use_entries word used = omega (arith, bits_small used)

-- and these bits
use_bits : (word : ℕ) (used : Use) → with_use word used % 4 ≡ bits_of used
unfolding with_use
use_bits word used = omega (arith, bits_small used)

-- the same bits once more change nothing
use_again : (word : ℕ) (used : Use) → with_use (with_use word used) used ≡ with_use word used
unfolding with_use
use_again word used = omega (arith, bits_small used)

module _ {shape : Shape} {used : Use} where
  -- a store into the word of an edge sets its bits alone
  pub use_stored : {s value : ℕ} {old new : List ℕ} → EdgeScratchStored shape s value old new
      → value ≡ with_use (edge_scratch shape old s) used → UsesSet shape (λ e. eqb s e) used old new
  use_stored {s} {value} {old} {new} v is = record { only = only_edge v; words = λ r h. go r h (true_or_false (eqb s r)) }
    where
      go : (r : ℕ) → r < shape.edges → (eqb s r ≡ true) ⊎ (eqb s r ≡ false)
          → edge_scratch shape new r ≡ cond (eqb s r) (with_use (edge_scratch shape old r) used) (edge_scratch shape old r)
      go r h (inl e) = rw (e, ← eqb_eq s r e) (v.stored ∙ is)
      go r h (inr n) = rw n (v.other_words r (omega (arith, edges_fit shape new v.holds)) (λ q. eqb_ne s r n (sym q)))

  -- nothing is done where no edge passes
  pub uses_none : (test : ℕ → Bool) (t : List ℕ) → Holds shape t → ((r : ℕ) → r < shape.edges → test r ≡ false)
      → UsesSet shape test used t t
  uses_none test t holds none = record { only = only_refl shape edges_only t holds; words = λ r h. rw (none r h) }

  -- tests that agree on all edges do the same
  pub uses_same : (test other : ℕ → Bool) {old new : List ℕ} → ((r : ℕ) → r < shape.edges → test r ≡ other r)
      → UsesSet shape test used old new → UsesSet shape other used old new
  uses_same test other e w = record { only = w.only; words = λ r h. rw (← e r h) (w.words r h) }

  -- one test after another sets the bits of the edges that pass either
  pub uses_both : (test other : ℕ → Bool) {x y z : List ℕ} → UsesSet shape test used x y → UsesSet shape other used y z
      → UsesSet shape (λ r. test r || other r) used x z
  uses_both test other {x} v w =
      record {
        only = only_trans v.only w.only;
        words = λ r h. w.words r h ∙ rw (v.words r h) (go (test r) (other r) (edge_scratch shape x r));
      }
    where
      go : (a b : Bool) (word : ℕ)
          → cond b (with_use (cond a (with_use word used) word) used) (cond a (with_use word used) word)
          ≡ cond (a || b) (with_use word used) word
      go true true word = use_again word used
      go true false word = refl
      go false b word = refl

  -- the bits of each edge then
  pub uses_bits : (test : ℕ → Bool) {old new : List ℕ} → UsesSet shape test used old new → (r : ℕ) → r < shape.edges
      → edge_scratch shape new r % 4 ≡ cond (test r) (bits_of used) (edge_scratch shape old r % 4)
  uses_bits test {old} w r h = ap (λ n. n % 4) (w.words r h) ∙ go (test r) (edge_scratch shape old r)
    where
      go : (a : Bool) (word : ℕ) → cond a (with_use word used) word % 4 ≡ cond a (bits_of used) (word % 4)
      go true word = use_bits word used
      go false word = refl

  -- the lists stand while bits are set
  pub uses_linked : (test : ℕ → Bool) {old new : List ℕ} → UsesSet shape test used old new
      → (g : Network) → network_in shape old ≡ g → Linked shape g (edge_count g) old → Linked shape g (edge_count g) new
  unfolding edges_only
  uses_linked test {old} {new} v g is w =
      record {
        heads = λ x h.
            v.only.columns head_column x (omega arith) refl (omega (arith, vertices_fit shape new v.only.holds, h)) ∙ w.heads x h;
        entries = λ s h.
            ap (λ n. n / 4) (v.words s (rw (← edges_held shape old, is) h))
            ∙ stay (test s) (edge_scratch shape old s)
            ∙ w.entries s h;
      }
    where
      stay : (a : Bool) (word : ℕ) → cond a (with_use word used) word / 4 ≡ word / 4
      stay true word = use_entries word used
      stay false word = refl

module _ (g : Network) (s r : ℕ) where
  -- whether an edge r that is not s is another mate of edge s is whether it is a mate
  pub other_mate : eqb s r ≡ false → {told answer : Bool} → told ≡ mates g s r → told ≡ answer → is_other_mate g s r ≡ answer
  unfolding is_other_mate
  other_mate n m e = rw n (sym m ∙ e)

  -- edge s is none
  pub not_other_mate : eqb s r ≡ true → is_other_mate g s r ≡ false
  unfolding is_other_mate
  not_other_mate q = rw q

  -- edge r alone, where it is another mate
  mate_alone : (e : ℕ) → (eqb r e && is_other_mate g s e) ≡ (eqb r e && is_other_mate g s r)
  mate_alone e = go (true_or_false (eqb r e))
    where
      go : (eqb r e ≡ true) ⊎ (eqb r e ≡ false) → (eqb r e && is_other_mate g s e) ≡ (eqb r e && is_other_mate g s r)
      go (inl q) = rw (eqb_eq r e q)
      go (inr n) = rw n

  -- the bits of such an edge are set
  pub mate_set : {shape : Shape} {used : Use} {old new : List ℕ} → is_other_mate g s r ≡ true → UsesSet shape (λ e. eqb r e) used old new
      → UsesSet shape (λ e. eqb r e && is_other_mate g s e) used old new
  mate_set o w = uses_same (λ e. eqb r e) (λ e. eqb r e && is_other_mate g s e) (λ e h. sym (mate_alone e ∙ rw o (and-true (eqb r e)))) w

  -- and nothing is done for another
  pub mate_passed : {shape : Shape} (used : Use) {t : List ℕ} → Holds shape t → is_other_mate g s r ≡ false
      → UsesSet shape (λ e. eqb r e && is_other_mate g s e) used t t
  mate_passed used {t} holds n =
      uses_none (λ e. eqb r e && is_other_mate g s e) t holds (λ e h. mate_alone e ∙ rw n (and-false (eqb r e)))
