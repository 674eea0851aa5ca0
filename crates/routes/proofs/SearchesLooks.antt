-- All edges at a vertex are seen, along its list.
use mathlib.Core.Bool.{true}
use mathlib.Core.List.{List}
use mathlib.Core.Path.{◌≡◌, sym, ◌∙◌, subst}
use Prim.Native.Nat.{ℕ, suc, ◌≤◌, ◌<◌, min}
use native.Mathlib.Omega.{arith}
use Rattle.graph.specs.Lists.{is_in}
use Rattle.graph.specs.Network.{Network, edge_count}
use Rattle.ways.specs.Search.{Found, look, look_below}
use Rattle.ways.specs.Used.{Used}
use Rattle.ways.proofs.SearchOrder.{in_order_known, look_grows, grown_reached}
use Rattle.numbers.specs.declared.Shape.{Shape}
use Rattle.forest.specs.Promise.{Holds, vertex_scratch}
use Rattle.routes.specs.declared.search.Allowance.{Allowance}
use Rattle.routes.specs.Inside.Frame.{head_column, Only, search_only}
use Rattle.routes.specs.Inside.Lists.{last_at, entry_behind}
use Rattle.routes.specs.Inside.Searches.{allowed_by, Searching, Looked, LookedAll}
use Rattle.routes.proofs.Frames.{edges_are, only_refl, only_trans}
use Rattle.routes.proofs.ListsWords.{behind_small, last_touches, look_from_last, first_entry_is, entry_behind_is}
use Rattle.routes.proofs.SearchesLook.{vertices_are, proper_is}

-- What was found when the edges from an entry on are left: they give what all edges give.
pub record Left (shape : Shape) (allowance : Allowance) (y : ℕ) (g : Network) (u : Used) (b : ℕ) (f : Found) (t : List ℕ)
    (reached entry : ℕ) : Type 0 where
  pub so_far : Found
  pub searching : Searching shape g u b so_far t reached
  pub from_reached : is_in y so_far.order ≡ true
  pub below : ℕ
  pub entry_is : entry ≡ last_at g y below
  pub same_end : look_below g (allowed_by g u allowance) y entry so_far ≡ look_below g (allowed_by g u allowance) y (edge_count g) f

-- The edges from an entry on are left, whatever is searched.
pub record Looking (shape : Shape) (allowance : Allowance) (y found : ℕ) (old new : List ℕ) (reached entry : ℕ) : Type 0 where
  pub only : Only shape search_only old new
  pub small : entry ≤ shape.edges
  pub left : (g : Network) (u : Used) (b : ℕ) (f : Found) → Searching shape g u b f old found → is_in y f.order ≡ true
      → Left shape allowance y g u b f new reached entry

-- at first all edges are
pub looking_first : (shape : Shape) (t : List ℕ) → Holds shape t → (allowance : Allowance) (y found entry : ℕ)
    → entry ≡ min (vertex_scratch shape t head_column y) shape.edges → Looking shape allowance y found t t found entry
looking_first shape t holds allowance y found entry e =
    record {
      only = only_refl shape search_only t holds;
      small = omega arith;
      left = λ g u b f w r.
          let is = e ∙ first_entry_is holds w.network_is w.listed.linked y
          (omega (arith, vertices_are w, in_order_known (proper_is w holds) w.goal_known w.orderly y r)) in
          record {
            so_far = f;
            searching = w;
            from_reached = r;
            below = edge_count g;
            entry_is = is;
            same_end = rw is (sym (look_from_last g (allowed_by g u allowance) y (edge_count g) f));
          };
    }

module _ {shape : Shape} {allowance : Allowance} {y : ℕ} where
  -- then one less
  left_next : {g : Network} {u : Used} {b : ℕ} {f : Found} {t new : List ℕ} {reached reached' entry entry' : ℕ} (s : ℕ)
      → Holds shape t → Left shape allowance y g u b f t reached entry → entry ≡ suc s → s < shape.edges
      → entry' ≡ entry_behind shape t y s → Looked shape allowance y s reached t new reached'
      → Left shape allowance y g u b f new reached' entry'
  unfolding look_below
  left_next {g} {u} {b} {f} {t = t} s holds w e h e' l =
      let allowed = allowed_by g u allowance in
      let k : s < edge_count g = omega (arith, h, edges_are shape g t w.searching.network_is) in
      let there = last_touches g y w.below s (sym w.entry_is ∙ e) in
      let is = e' ∙ entry_behind_is holds w.searching.network_is w.searching.listed.linked y s k there in
      record {
        so_far = look g allowed y s w.so_far;
        searching = l.goes g u b w.so_far w.searching (w.from_reached, there);
        from_reached = grown_reached (look_grows g allowed y s w.so_far k w.from_reached) y w.from_reached;
        below = s;
        entry_is = is;
        same_end = rw is (sym (look_from_last g allowed y s (look g allowed y s w.so_far)) ∙ rw e at w.same_end);
      }

  module _ {found : ℕ} {old : List ℕ} where
    pub looking_next : {t new : List ℕ} {reached reached' entry entry' : ℕ} (s : ℕ) → Looking shape allowance y found old t reached entry
        → entry ≡ suc s → entry' ≡ entry_behind shape t y s → Looked shape allowance y s reached t new reached'
        → Looking shape allowance y found old new reached' entry'
    looking_next {t} s w e e' l =
        record {
          only = only_trans w.only l.only;
          small = omega (arith, w.small, e, e', behind_small shape t y s);
          left = λ g u b f q r. left_next s w.only.holds (w.left g u b f q r) e (omega (arith, w.small, e)) e' l;
        }

    -- and at last none
    pub looking_last : {new : List ℕ} {reached entry : ℕ} → Looking shape allowance y found old new reached entry → entry ≡ 0
        → LookedAll shape allowance y found old new reached
    unfolding look_below
    looking_last {new} {reached} w e =
        record {
          only = w.only;
          goes = λ g u b f q r.
              let l = w.left g u b f q r in
              subst (λ h. Searching shape g u b h new reached) (rw e at l.same_end) l.searching;
        }
