-- Steps of a walk with what is lent, and with numbers.
--     counted              what a number owns is had for nothing
--     copied               what a `&` to a slice owns is had twice
--     AtLast               what is said at last of a `&mut` to a slice
--     gives_up             a `&mut` to a slice is given up: what it holds is what it holds at last
--     as_long              what is said of a slice at last, beside another list of the same length
--     lends, gets_back     a `&mut` to a slice is lent again for a lifetime of one call, under another name, and comes back as the call left it
use mathlib.Core.Path.{◌≡◌, refl, sym, ◌∙◌, ap}
use Prim.Native.Nat.{ℕ, ◌<◌, ◌^◌}
use mathlib.Core.List.{List, [], ◌∷◌}
use lib.ListN.{length}
use seplogic.Ra.Ura.{Ura}
use base.Fraction.{full_share}
use mir.Syntax.{erased, w64}
use mir.Val.{Val}
use base.Fml.{Fml, Lft, GName, Share, fsep, feq, flft, fres, fbor}
use types.Logic.{Logic}
use types.Kit.{Item, ‵, given, ◌⊛◌, some, later, Goal, Soaks, Seq, Step, step}
use types.Kit.{◌$◌, move, drop, use1, use2, use3, split, fsplit, fjoin, feq_l, feq_i, rewrite, learn, pick, await}
use types.SemTy.{Body, Arr}
use types.Hole.{Holey}
use types.Tokens.{lft_new, lft_end}
use denote.Builtin.{usize}
use denote.Laws.{Is}
use denote.Plain.{uint_vals, uint_Makes}
use denote.Memory.{mem}
use denote.RattleType.{RattleType, RowLaws}
use denote.Ref.{Bor, MutBor, at_last}
use denote.Slice.{MutSlice, ShrSlice, slice_val, mut_slice_vals, finally, heres, coded_holeys, res-finally, shr_slice_copy}
use denote.Steps.{owned}
use borrow.Rule.Slice.Lend.{kept_f, sl_relend, sl_relent_backˡ}
use borrow.Table.Owned as bare

abbrev pub AtLast : (R : RattleType) → Lft → ℕ × ℕ → GName → (ys zs : List R.Denot) → Fml
AtLast R κ p δ ys zs =
    fsep (fsep (finally R δ zs) (feq ℕ (length zs) (length ys))) (fbor κ (Body (Arr (Holey (mem R)) (length ys)) p.0 p.1 δ))

module _ (R : RattleType) (x : MutBor (List R.Denot)) where
  -- the same slice, lent under another name
  abbrev pub under : GName → MutBor (List R.Denot)
  under δ = record { ref_ptr = x.ref_ptr; ghost_name = δ; now = x.now }

  -- what whoever lent it has meanwhile
  abbrev pub Away : {M : Type 1} {𝓤 : Ura M} (𝓛 : Logic 𝓤) → Lft → Share → ℕ → GName → Item 𝓤
  Away 𝓛 κ q ν δ = kept_f 𝓛 R κ q (ν ∷ []) x.ghost_name δ x.now x.ref_ptr.0 x.ref_ptr.1

module _ {M : Type 1} {𝓤 : Ura M} {𝓛 : Logic 𝓤} {K : Type 0} {Γ : List (Item 𝓤)} {G : Goal 𝓤 𝓛.H} where
  pub counted : K → (n : ℕ) → n < 2 ^ 64 → Step K 𝓛 (‵ (usize.own_val n (uint_vals w64 n)) ∷ Γ) G Γ G
  counted t n fits = owned t usize (Is usize) (uint_Makes 𝓛 w64) n (uint_vals w64 n) (refl, fits)

  pub as_long : K → (R : RattleType) (κ : Lft) (p : ℕ × ℕ) (δ : GName) (ys ys' zs : List R.Denot) → length ys ≡ length ys'
      → Step K 𝓛 (‵ (AtLast R κ p δ ys' zs) ∷ Γ) G (‵ (AtLast R κ p δ ys zs) ∷ Γ) G
  as_long t R κ p δ ys ys' zs e = step (λ s.
      fsplit t $ fsplit t $ move t (1 ∷ []) $ feq_l t (λ l. feq_i t ℕ (length zs) (length ys') (l ∙ e) $ move t (1 ∷ 0 ∷ []) $ fjoin t $
      rewrite t 1 (λ (n : ℕ). ‵ (fbor κ (Body (Arr (Holey (mem R)) n) p.0 p.1 δ))) e refl $ fjoin t $ s))

  module _ (R : RattleType) (κ : Lft) (x : Bor (List R.Denot)) (vs : List Val) where
    pub copied : K → RowLaws R
        → Step K 𝓛 (‵ ((ShrSlice erased κ R).own_val x vs) ∷ ‵ ((ShrSlice erased κ R).own_val x vs) ∷ Γ) G (‵ ((ShrSlice erased κ R).own_val x vs) ∷ Γ) G
    copied t L = step (λ s.
        use1 𝓛 (‵ ((ShrSlice erased κ R).own_val x vs) ⊛ ‵ ((ShrSlice erased κ R).own_val x vs)) ((shr_slice_copy 𝓛 erased κ R L).twice x vs) $ split t $ s)

  module _ (R : RattleType) (κ : Lft) (x : MutBor (List R.Denot)) (vs : List Val) where
    -- it may have been lent again before, so its length is that of an earlier list
    pub gives_up : K → (ys : List R.Denot) → length x.now ≡ length ys
        → Step K 𝓛 (‵ (AtLast R κ x.ref_ptr x.ghost_name ys x.now) ∷ Γ) G (‵ ((MutSlice erased κ R).own_val x vs) ∷ Γ) G
    gives_up t ys e = step (λ s.
        let tracked = (coded_holeys R).code (heres R x.now) in
        fsplit t $ drop t $ fsplit t $ use1 𝓛 (‵ (fres x.ghost_name tracked)) (𝓛.names.obs-res x.ghost_name tracked) $
        use1 𝓛 (‵ (finally R x.ghost_name x.now)) (res-finally 𝓛 erased κ R x.ghost_name x.now) $
        feq_i t ℕ (length x.now) (length ys) e $ move t (1 ∷ 0 ∷ []) $ fjoin t $
        rewrite t 1 (λ (n : ℕ). ‵ (fbor κ (Body (Arr (Holey (mem R)) n) x.ref_ptr.0 x.ref_ptr.1 x.ghost_name))) e refl $ fjoin t $ s)

    module _ (q : Share) where
      pub lends : K → Soaks G
          → ((ν : ℕ) (δ : GName) → vs ≡ mut_slice_vals x
          → Seq K 𝓛 (‵ (flft (ν ∷ []) full_share) ∷ ‵ ((MutSlice erased (ν ∷ []) R).own_val (under R x δ) vs) ∷ Away R x 𝓛 κ q ν δ ∷ Γ) G)
          → Seq K 𝓛 (‵ ((MutSlice erased κ R).own_val x vs) ∷ ‵ (flft κ q) ∷ Γ) G
      lends t z k =
          fsplit t $ fsplit t $ feq_l t (λ e. fjoin t $ lft_new t z (λ ν. move t (1 ∷ 2 ∷ []) $
          use2 𝓛 (later (some (λ (δ : GName). ‵ ((bare.MutSlice erased (ν ∷ []) R).own_val (under R x δ)) ⊛ Away R x 𝓛 κ q ν δ)))
          (sl_relend 𝓛 R κ q (ν ∷ []) x.ref_ptr.0 x.ref_ptr.1 x.ghost_name x.now) $
          await t z $ pick t (λ δ. split t $ fsplit t $ feq_i t (List Val) vs (mut_slice_vals x) e $ fjoin t $ fjoin t $ move t (2 ∷ 0 ∷ 1 ∷ []) $ k ν δ e)))

      pub gets_back : K → Soaks G → (ν : ℕ) (δ : GName) (zs : List R.Denot) → vs ≡ mut_slice_vals x
          → (length zs ≡ length x.now → Seq K 𝓛 (‵ ((MutSlice erased κ R).own_val (at_last x zs) vs) ∷ ‵ (flft κ q) ∷ Γ) G)
          → Seq K 𝓛 (‵ (flft (ν ∷ []) full_share) ∷ ‵ (AtLast R (ν ∷ []) x.ref_ptr δ x.now zs) ∷ Away R x 𝓛 κ q ν δ ∷ Γ) G
      gets_back t z ν δ zs e k =
          lft_end t z $ move t (1 ∷ []) $ fsplit t $ fsplit t $ move t (1 ∷ 2 ∷ []) $ drop t $ drop t $ move t (1 ∷ 2 ∷ 0 ∷ []) $
          use3 𝓛 (later (given (length zs ≡ length x.now) (‵ ((bare.MutSlice erased κ R).own_val (at_last x zs)) ⊛ ‵ (flft κ q))))
          (sl_relent_backˡ 𝓛 R κ q (ν ∷ []) x.ref_ptr.0 x.ref_ptr.1 x.ghost_name δ x.now zs) $
          await t z $ learn t (λ l. split t $ fsplit t $
          feq_i t (List Val) vs (mut_slice_vals (at_last x zs)) (e ∙ ap (λ (n : ℕ). slice_val x.ref_ptr n ∷ []) (sym l)) $ fjoin t $ fjoin t $
          k l)
