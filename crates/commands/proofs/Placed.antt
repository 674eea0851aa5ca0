-- Places in a journal: what stands at one; each command of a text stands where the one before it ends, and the start changes nothing but
-- the places.
use mathlib.Core.List.{List, [], ◌∷◌, map}
use mathlib.Core.Logic.{◌↔◌}
use mathlib.Core.Option.{some}
use mathlib.Core.Path.{◌≡◌, refl, ap, subst}
use Prim.Native.Nat.{ℕ, zero, suc, ◌+◌, ◌<◌}
use native.Mathlib.Nat.{add-suc}
use native.Mathlib.Omega.{arith}
use lib.ListN.{length, take, drop, get_elem?, length-drop}
use Rattle.commands.specs.Command.{Reading, unknown_byte, cut_off, command, read_command}
use Rattle.commands.specs.Text.{Read, Text, ends_with, followed_by, text_from, place_behind}
use Rattle.commands.proofs.Cases.{impossible}

-- at the place of the journal stands a byte with those behind it, of which this is so
pub record Stands (place : ℕ) (journal : List ℕ) (Is : ℕ → List ℕ → Type 0) : Type 0 where
  pub byte : ℕ
  pub bytes : List ℕ
  pub at_place : drop place journal ≡ byte ∷ bytes
  pub is_so : Is byte bytes

-- then the place is before the journal's end
pub stands_in_journal : (place : ℕ) (journal : List ℕ) (Is : ℕ → List ℕ → Type 0) → Stands place journal Is → place < length journal
stands_in_journal place journal Is at = omega (arith, ap length at.at_place, length-drop place journal)

-- where two things agree of all bytes, the one stands there exactly if the other does
pub stands_exactly : (place : ℕ) (journal : List ℕ) (Is Was : ℕ → List ℕ → Type 0)
    → ((byte : ℕ) (bytes : List ℕ) → Is byte bytes ↔ Was byte bytes) → Stands place journal Is ↔ Stands place journal Was
stands_exactly place journal Is Was f = (
  λ at. record { byte = at.byte; bytes = at.bytes; at_place = at.at_place; is_so = (f at.byte at.bytes).0 at.is_so },
  λ at. record { byte = at.byte; bytes = at.bytes; at_place = at.at_place; is_so = (f at.byte at.bytes).1 at.is_so },
)

-- the first command stands at the place, and each other one where the one before it ends
abbrev pub PlacedFrom : ℕ → List Read → Type 0
PlacedFrom place [] = Unit
PlacedFrom place (r ∷ later) = (r.place ≡ place) × PlacedFrom (place + 1 + r.width) later

-- the commands of a text stand so, from behind the operands that are skipped
pub text_placed : (place k : ℕ) (bytes : List ℕ) → PlacedFrom (place + k) (text_from place k bytes).commands
unfolding text_from ends_with followed_by
text_placed place zero [] = tt
text_placed place (suc k) [] = tt
text_placed place (suc k) (byte ∷ bytes) =
    subst (λ p. PlacedFrom p (text_from (suc place) k bytes).commands) (omega arith) (text_placed (suc place) k bytes)
text_placed place zero (byte ∷ bytes) = go (λ k. text_placed (suc place) k bytes) (read_command byte bytes) refl
  where
    go : ((k : ℕ) → PlacedFrom (suc place + k) (text_from (suc place) k bytes).commands) → (read : Reading) → read_command byte bytes ≡ read
        → PlacedFrom (place + 0) (text_from place 0 (byte ∷ bytes)).commands
    go later unknown_byte e = rw (e, text_from) tt
    go later cut_off e = rw (e, text_from) tt
    go later (command c width) e =
        rw
        (e, text_from)
        (omega arith, subst (λ p. PlacedFrom p (text_from (suc place) width bytes).commands) (omega arith) (later width))

-- so command k stands behind the k commands before it
pub placed_behind : (place k : ℕ) (l : List Read) (r : Read) → PlacedFrom place l → get_elem? l k ≡ some r
    → r.place ≡ place + place_behind (take k l)
unfolding place_behind
placed_behind place k [] r placed e = impossible (cc)
placed_behind place zero (x ∷ l) r placed e = let same : x ≡ r = cc in omega (arith, placed.0, ap (λ (q : Read). q.place) same)
placed_behind place (suc k) (x ∷ l) r placed e = omega (arith, placed_behind (place + 1 + x.width) k l r placed.1 e)

-- a text so many places further on
unfoldable pub further_on : ℕ → Text → Text
further_on n t =
    record {
      commands = map (λ r. record { command = r.command; place = n + r.place; width = r.width }) t.commands;
      refusal = t.refusal;
    }

-- the same bytes read from so many places further on
pub text_further_on : (n place k : ℕ) (bytes : List ℕ) → text_from (n + place) k bytes ≡ further_on n (text_from place k bytes)
unfolding text_from ends_with followed_by further_on
text_further_on n place zero [] = refl
text_further_on n place (suc k) [] = refl
text_further_on n place (suc k) (byte ∷ bytes) = rw (add-suc n place) at (text_further_on n (suc place) k bytes)
text_further_on n place zero (byte ∷ bytes) = go (λ k. text_further_on n (suc place) k bytes) (read_command byte bytes) refl
  where
    go : ((k : ℕ) → text_from (n + suc place) k bytes ≡ further_on n (text_from (suc place) k bytes)) → (read : Reading)
        → read_command byte bytes ≡ read → text_from (n + place) 0 (byte ∷ bytes) ≡ further_on n (text_from place 0 (byte ∷ bytes))
    go later unknown_byte e = rw (e, text_from)
    go later cut_off e = rw (e, text_from)
    go later (command c width) e =
        rw (e, text_from) (ap (followed_by (record { command = c; place = n + place; width = width })) (rw (add-suc n place) at (later width)))
