-- Types that are known: what a value is to the machine, that this alone is of the type, and the type's laws in every model.
--     model, 𝓛                     a model, and what is given in it
--     Known R, Knowns Rs           a known type, and a list of them
--     spelling, telling, lawfuls   the three parts, of a list
--     shared, lent, lent_value     a `&[T]`, a `&mut [T]`, a `&mut T`
--     number, struct, enum         an unsigned number, a struct, an enum
use Prim.Native.Nat.{ℕ}
use mathlib.Core.List.{List, [], ◌∷◌}
use seplogic.Ra.Ura.{Ura}
use mir.Syntax.{Width, named}
use mir.Val.{Val}
use base.Fml.{Lft}
use prog.Model.{Model}
use types.Logic.{Logic}
use contract.Running.{Running}
use denote.Enum.Declared as ED
use denote.Enum.Enum.{Few}
use denote.Enum.Laws as EL
use denote.Laws.{Is, Ises, Tells, Tellss, Spells, Lawful, Lawfuls}
use denote.Plain.{UInt, uint_vals, uint_Tells, uint_Lawful}
use denote.RattleType.{RattleType}
use denote.Ref.{MutRef, mut_vals, mut_Tells, mut_Lawful}
use denote.Slice.{ShrSlice, MutSlice, shr_slice_vals, mut_slice_vals, shr_slice_Tells, mut_slice_Tells, shr_slice_Lawful, mut_slice_Lawful}
use denote.Struct.Declared as SD
use denote.Struct.Laws as SL
use borrow.Fn.World.{World}

abbrev pub model : {M : Type 1} {𝓤 : Ura M} (𝓛 : Logic 𝓤) (𝓜 : Model 𝓤 𝓛.H) → Running 𝓤 𝓛.H 𝓜 → World
model {M} {𝓤 = 𝓤} 𝓛 𝓜 𝓡 = record { M = M; 𝓤 = 𝓤; 𝓛 = 𝓛; 𝓜 = 𝓜; 𝓡 = 𝓡 }

abbrev pub W : (w : World) → Logic w.𝓤
W w = w.𝓛

pub record Known (R : RattleType) : Type 2 where
  pub vals : R.Denot → List Val
  pub tells : Tells R (Is R) vals
  pub lawful : (w : World) → Lawful w.𝓛 R

abbrev pub Knowns : List RattleType → Type 2
Knowns [] = Unit {2}
Knowns (R ∷ Rs) = Known R × Knowns Rs

abbrev pub spelling : (Rs : List RattleType) → Knowns Rs → Spells Rs
spelling [] ks = tt
spelling (R ∷ Rs) ks = (ks.0.vals, spelling Rs ks.1)

pub telling : (Rs : List RattleType) (ks : Knowns Rs) → Tellss Rs (Ises Rs) (spelling Rs ks)
telling [] ks = tt
telling (R ∷ Rs) ks = (ks.0.tells, telling Rs ks.1)

pub lawfuls : (w : World) (Rs : List RattleType) → Knowns Rs → Lawfuls w.𝓛 Rs
lawfuls w [] ks = tt
lawfuls w (R ∷ Rs) ks = (ks.0.lawful w, lawfuls w Rs ks.1)

-- for lifetime j of the signature, which is κ
module _ (j : ℕ) (κ : Lft) (R : RattleType) where
  abbrev pub shared : Known (ShrSlice (named j) κ R)
  shared = record {
    vals = shr_slice_vals;
    tells = shr_slice_Tells (named j) κ R;
    lawful = λ w. shr_slice_Lawful w.𝓛 (named j) κ R;
  }

  abbrev pub lent : Known (MutSlice (named j) κ R)
  lent = record {
    vals = mut_slice_vals;
    tells = mut_slice_Tells (named j) κ R;
    lawful = λ w. mut_slice_Lawful w.𝓛 (named j) κ R;
  }

  abbrev pub lent_value : Known (MutRef (named j) κ R)
  lent_value = record { vals = mut_vals; tells = mut_Tells (named j) κ R; lawful = λ w. mut_Lawful w.𝓛 (named j) κ R }

abbrev pub number : (b : Width) → Known (UInt b)
number b = record { vals = uint_vals b; tells = uint_Tells b; lawful = λ w. uint_Lawful w.𝓛 b }

abbrev pub struct : (T : SD.Declared) (L : SL.Laws T) → Known (SD.row T)
struct T L = record { vals = SL.vals T L; tells = SL.tells T L; lawful = λ w. SL.lawful T L w.𝓛 }

abbrev pub enum : (T : ED.Declared) (L : EL.Laws T) → Few (ED.shape T) → Known (ED.row T)
enum T L few = record { vals = EL.vals T L; tells = EL.tells T L; lawful = λ w. EL.lawful T L w.𝓛 few }
