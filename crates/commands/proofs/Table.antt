-- The table of causes: the refusal is that of the first line that applies.
use mathlib.Core.Bool.{Bool, true, false, not, ◌&&◌, true≢false}
use mathlib.Core.List.{List, [], ◌∷◌}
use mathlib.Core.Logic.{◌↔◌, ◌⊎◌, inl, inr}
use mathlib.Core.Option.{none, some}
use mathlib.Core.Path.{◌≡◌, refl, sym, ◌∙◌, ap}
use Prim.Native.Nat.{ℕ, zero, suc, ◌≤◌, ◌<◌}
use native.Mathlib.Nat.{not-suc-le-zero}
use native.Mathlib.Omega.{arith}
use lib.Dec.{leb, eqb}
use lib.ListN.{get_or, get_elem?}
use Rattle.graph.proofs.Truth.{true_or_false, not_both, and_left, and_right, eqb_eq, eqb_same, leb_le, false_of_not, false_of_not_true}
use Rattle.commands.specs.Refusal.{Refusal, bad_capacity, short_buffer, long_journal, bad_byte, cut_operands, unknown_cabinet, unknown_span, equal_cabinets, full, two_districts, no_room, already_exchange, no_duct, no_shared_ring, duct_told, long_result, refused_journal, bad_seam, long_join, refusal_number, Line, first_that_applies}
use Rattle.commands.proofs.Cases.{impossible}

-- the refusal with a number
with_number : ℕ → Refusal
with_number n =
    get_or
    (bad_capacity
    ∷ bad_capacity
    ∷ short_buffer
    ∷ long_journal
    ∷ bad_byte
    ∷ cut_operands
    ∷ unknown_cabinet
    ∷ unknown_span
    ∷ equal_cabinets
    ∷ full
    ∷ two_districts
    ∷ no_room
    ∷ already_exchange
    ∷ no_duct
    ∷ no_shared_ring
    ∷ duct_told
    ∷ long_result
    ∷ refused_journal
    ∷ bad_seam
    ∷ long_join
    ∷ [])
    n
    bad_capacity

with_its_number : (r : Refusal) → with_number (refusal_number r) ≡ r
unfolding with_number refusal_number
with_its_number bad_capacity = refl
with_its_number short_buffer = refl
with_its_number long_journal = refl
with_its_number bad_byte = refl
with_its_number cut_operands = refl
with_its_number unknown_cabinet = refl
with_its_number unknown_span = refl
with_its_number equal_cabinets = refl
with_its_number full = refl
with_its_number two_districts = refl
with_its_number no_room = refl
with_its_number already_exchange = refl
with_its_number no_duct = refl
with_its_number no_shared_ring = refl
with_its_number duct_told = refl
with_its_number long_result = refl
with_its_number refused_journal = refl
with_its_number bad_seam = refl
with_its_number long_join = refl

-- refusals with the same number are the same
pub same_number : (r s : Refusal) → refusal_number r ≡ refusal_number s → r ≡ s
same_number r s e = sym (with_its_number r) ∙ ap with_number e ∙ with_its_number s

-- no refusal has the number 0, which means that there was none
pub number_above_zero : (r : Refusal) → 0 < refusal_number r
unfolding refusal_number
number_above_zero bad_capacity = omega arith
number_above_zero short_buffer = omega arith
number_above_zero long_journal = omega arith
number_above_zero bad_byte = omega arith
number_above_zero cut_operands = omega arith
number_above_zero unknown_cabinet = omega arith
number_above_zero unknown_span = omega arith
number_above_zero equal_cabinets = omega arith
number_above_zero full = omega arith
number_above_zero two_districts = omega arith
number_above_zero no_room = omega arith
number_above_zero already_exchange = omega arith
number_above_zero no_duct = omega arith
number_above_zero no_shared_ring = omega arith
number_above_zero duct_told = omega arith
number_above_zero long_result = omega arith
number_above_zero refused_journal = omega arith
number_above_zero bad_seam = omega arith
number_above_zero long_join = omega arith

-- a line that applies gives its refusal
pub line_applies : (l : Line) (ls : List Line) → l.applies ≡ true → first_that_applies (l ∷ ls) ≡ some l.refusal
unfolding first_that_applies
line_applies l ls e = rw (e, first_that_applies)

-- a line that does not apply is passed over
pub line_passed_over : (l : Line) (ls : List Line) → l.applies ≡ false → first_that_applies (l ∷ ls) ≡ first_that_applies ls
unfolding first_that_applies
line_passed_over l ls e = rw (e, first_that_applies)

-- none of the first k lines applies
abbrev pub NoneBefore : List Line → ℕ → Type 0
NoneBefore ls k = (i : ℕ) (l : Line) → i < k → get_elem? ls i ≡ some l → l.applies ≡ false

-- line k applies, with this refusal, and no line before it does
pub record FirstLine (ls : List Line) (r : Refusal) : Type 0 where
  pub k : ℕ
  pub this : Line
  pub is_kth : get_elem? ls k ≡ some this
  pub applies : this.applies ≡ true
  pub its_refusal : this.refusal ≡ r
  pub none_before : NoneBefore ls k

none_before_more : (l : Line) (ls : List Line) (k : ℕ) → l.applies ≡ false → NoneBefore ls k → NoneBefore (l ∷ ls) (suc k)
none_before_more l ls k e f zero m h d = let same : l ≡ m = cc in rw same at e
none_before_more l ls k e f (suc i) m h d = f i m (omega arith) d

first_line_lem : (ls : List Line) (r : Refusal) → first_that_applies ls ≡ some r → FirstLine ls r
unfolding first_that_applies
first_line_lem [] r e = impossible (cc)
first_line_lem (l ∷ ls) r e = go (first_line_lem ls r) (true_or_false l.applies)
  where
    go : (first_that_applies ls ≡ some r → FirstLine ls r) → (l.applies ≡ true) ⊎ (l.applies ≡ false) → FirstLine (l ∷ ls) r
    go rest (inl d) =
        record {
          k = 0;
          this = l;
          is_kth = refl;
          applies = d;
          its_refusal = cc (line_applies l ls d);
          none_before = λ i m h. absurd (not-suc-le-zero h);
        }
    go rest (inr d) =
        let there = rest (sym (line_passed_over l ls d) ∙ e) in
        record {
          k = suc there.k;
          this = there.this;
          is_kth = there.is_kth;
          applies = there.applies;
          its_refusal = there.its_refusal;
          none_before = none_before_more l ls there.k d there.none_before;
        }

first_line_refuses : (ls : List Line) (k : ℕ) (this : Line) → get_elem? ls k ≡ some this → this.applies ≡ true → NoneBefore ls k
    → first_that_applies ls ≡ some this.refusal
first_line_refuses [] k this e d f = impossible (cc)
first_line_refuses (l ∷ ls) zero this e d f = let same : l ≡ this = cc in rw (← same) (line_applies l ls (rw same d))
first_line_refuses (l ∷ ls) (suc k) this e d f =
    line_passed_over l ls (f 0 l (omega arith) refl) ∙ first_line_refuses ls k this e d (λ i m h. f (suc i) m (omega arith))

-- a refusal is given exactly if a line with it applies and no line before it does
pub first_that_applies_lem : (ls : List Line) (r : Refusal) → (first_that_applies ls ≡ some r) ↔ FirstLine ls r
first_that_applies_lem ls r = (
  first_line_lem ls r,
  λ f. first_line_refuses ls f.k f.this f.is_kth f.applies f.none_before ∙ ap some f.its_refusal,
)

-- no line applies
abbrev pub NoneApplies : List Line → Type 0
NoneApplies ls = (i : ℕ) (l : Line) → get_elem? ls i ≡ some l → l.applies ≡ false

passed_over : (ls : List Line) → first_that_applies ls ≡ none → NoneApplies ls
passed_over [] e i m d = impossible (cc)
passed_over (l ∷ ls) e i m d = go i d (passed_over ls)
  where
    here : l.applies ≡ false
    here = false_of_not l.applies (λ a. impossible (cc (line_applies l ls a)))

    go : (i : ℕ) → get_elem? (l ∷ ls) i ≡ some m → (first_that_applies ls ≡ none → NoneApplies ls) → m.applies ≡ false
    go zero d rest = let same : l ≡ m = cc in rw same at here
    go (suc i) d rest = rest (sym (line_passed_over l ls here) ∙ e) i m d

-- every line's refusal passes the test
abbrev pub every_refusal : (Refusal → Bool) → List Line → Bool
every_refusal p [] = true
every_refusal p (l ∷ ls) = p l.refusal && every_refusal p ls

-- then the refusal that is given passes it
pub given_passes : (p : Refusal → Bool) (ls : List Line) (r : Refusal) → every_refusal p ls ≡ true → first_that_applies ls ≡ some r → p r ≡ true
unfolding first_that_applies
given_passes p [] r a e = impossible (cc)
given_passes p (l ∷ ls) r a e = go (given_passes p ls r (and_right (p l.refusal) (every_refusal p ls) a)) (true_or_false l.applies)
  where
    go : (first_that_applies ls ≡ some r → p r ≡ true) → (l.applies ≡ true) ⊎ (l.applies ≡ false) → p r ≡ true
    go rest (inl d) =
        let same : l.refusal ≡ r = cc (line_applies l ls d) in
        rw same at (and_left (p l.refusal) (every_refusal p ls) a)
    go rest (inr d) = rest (sym (line_passed_over l ls d) ∙ e)

-- when a refusal is given: 0 at the start, 1 where no command can be read, 2 for a command that was read, 3 for want of room, 4 where a
-- journal is rewritten or two are joined, and in no run
unfoldable pub stage : Refusal → ℕ
stage bad_capacity = 0
stage short_buffer = 0
stage long_journal = 0
stage bad_byte = 1
stage cut_operands = 1
stage unknown_cabinet = 2
stage unknown_span = 2
stage equal_cabinets = 2
stage full = 2
stage two_districts = 2
stage already_exchange = 2
stage no_duct = 2
stage no_shared_ring = 2
stage no_room = 3
stage duct_told = 4
stage long_result = 4
stage refused_journal = 4
stage bad_seam = 4
stage long_join = 4

-- the refusal's stage lies between the two
abbrev pub between : ℕ → ℕ → Refusal → Bool
between low high r = leb low (stage r) && leb (stage r) high

-- the same as an order of numbers
pub record Between (low high : ℕ) (r : Refusal) : Type 0 where
  pub from : low ≤ stage r
  pub to : stage r ≤ high

-- if every line's stage lies between the two, so does that of the refusal that is given
pub given_between : (low high : ℕ) (ls : List Line) (r : Refusal) → every_refusal (between low high) ls ≡ true
    → first_that_applies ls ≡ some r → Between low high r
given_between low high ls r a e =
    let b = given_passes (between low high) ls r a e in
    record {
      from = leb_le _ _ (and_left (leb low (stage r)) (leb (stage r) high) b);
      to = leb_le _ _ (and_right (leb low (stage r)) (leb (stage r) high) b);
    }

-- the two refusals have the same number
abbrev pub alike : Refusal → Refusal → Bool
alike r s = eqb (refusal_number r) (refusal_number s)

-- no line has this refusal
abbrev pub not_among : Refusal → List Line → Bool
not_among r = every_refusal (λ s. not (alike s r))

-- line k has this refusal, and no other line
abbrev pub only_at : ℕ → Refusal → List Line → Bool
only_at k r [] = false
only_at zero r (l ∷ ls) = alike l.refusal r && not_among r ls
only_at (suc k) r (l ∷ ls) = not (alike l.refusal r) && only_at k r ls

unlike_itself : (r : Refusal) → not (alike r r) ≡ true → ⊥
unlike_itself r d = not_both (eqb_same (refusal_number r)) (false_of_not_true (alike r r) d)

not_given : (r : Refusal) (ls : List Line) → not_among r ls ≡ true → first_that_applies ls ≡ some r → ⊥
not_given r ls n e = unlike_itself r (given_passes (λ s. not (alike s r)) ls r n e)

another : (l : Line) (ls : List Line) (r : Refusal) → not (alike l.refusal r) ≡ true → first_that_applies (l ∷ ls) ≡ some r
    → l.applies ≡ false
another l ls r d e = false_of_not l.applies other
  where
    other : l.applies ≡ true → ⊥
    other a = let same : l.refusal ≡ r = cc (line_applies l ls a) in unlike_itself r (rw same at d)

-- line k applies and none before it does, spelled out line by line
abbrev pub FirstAt : ℕ → List Line → Type 0
FirstAt k [] = ⊥
FirstAt zero (l ∷ ls) = l.applies ≡ true
FirstAt (suc k) (l ∷ ls) = (l.applies ≡ false) × FirstAt k ls

first_at : (k : ℕ) (r : Refusal) (ls : List Line) → only_at k r ls ≡ true → first_that_applies ls ≡ some r → FirstAt k ls
unfolding first_that_applies
first_at k r [] o e = true≢false (sym o)
first_at zero r (l ∷ ls) o e = go (true_or_false l.applies)
  where
    go : (l.applies ≡ true) ⊎ (l.applies ≡ false) → l.applies ≡ true
    go (inl d) = d
    go (inr d) = absurd (not_given r ls (and_right (alike l.refusal r) (not_among r ls) o) (sym (line_passed_over l ls d) ∙ e))
first_at (suc k) r (l ∷ ls) o e =
    let d = another l ls r (and_left (not (alike l.refusal r)) (only_at k r ls) o) e in
    (d, first_at k r ls (and_right (not (alike l.refusal r)) (only_at k r ls) o) (sym (line_passed_over l ls d) ∙ e))

given_at : (k : ℕ) (r : Refusal) (ls : List Line) → only_at k r ls ≡ true → FirstAt k ls → first_that_applies ls ≡ some r
given_at k r [] o f = absurd f
given_at zero r (l ∷ ls) o f =
    line_applies l ls f ∙ ap some (same_number l.refusal r (eqb_eq _ _ (and_left (alike l.refusal r) (not_among r ls) o)))
given_at (suc k) r (l ∷ ls) o f = line_passed_over l ls f.0 ∙ given_at k r ls (and_right (not (alike l.refusal r)) (only_at k r ls) o) f.1

-- the refusal of line k alone is given exactly if that line applies and none before it does
pub given_exactly : (k : ℕ) (r : Refusal) (ls : List Line) → only_at k r ls ≡ true → (first_that_applies ls ≡ some r) ↔ FirstAt k ls
given_exactly k r ls o = (first_at k r ls o, given_at k r ls o)

-- no line applies, spelled out line by line
abbrev pub NoneOf : List Line → Type 0
NoneOf [] = Unit
NoneOf (l ∷ ls) = (l.applies ≡ false) × NoneOf ls

none_of : (ls : List Line) → first_that_applies ls ≡ none → NoneOf ls
none_of [] e = tt
none_of (l ∷ ls) e =
    let d = passed_over (l ∷ ls) e 0 l refl in
    (d, none_of ls (sym (line_passed_over l ls d) ∙ e))

of_none : (ls : List Line) → NoneOf ls → first_that_applies ls ≡ none
unfolding first_that_applies
of_none [] f = refl
of_none (l ∷ ls) f = line_passed_over l ls f.0 ∙ of_none ls f.1

-- no refusal is given exactly if none of the lines applies
pub none_exactly : (ls : List Line) → (first_that_applies ls ≡ none) ↔ NoneOf ls
none_exactly ls = (none_of ls, of_none ls)
