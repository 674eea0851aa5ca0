-- The answer to 0C as it is written: span by span, and the one route behind the other.
use mathlib.Core.List.{List, [], ◌∷◌, ◌++◌, map}
use mathlib.Core.Path.{◌≡◌, refl, sym, ◌∙◌, ap}
use Prim.Native.Nat.{ℕ, ◌+◌, ◌*◌}
use native.Mathlib.Omega.{arith}
use lib.Seq.{sets}
use Rattle.graph.specs.Below.{tabulate, length_tabulate}
use Rattle.commands.specs.Bytes.{two_bytes}
use Rattle.commands.specs.Field.{span, field_bytes, fields_bytes}
use Rattle.commands.specs.Answer.{plain_fields, plain, routes_are, answer_fields, answer_bytes}
use Rattle.commands.proofs.Bytes.{spans_in_two_bytes, bytes_then_counted, length_two_bytes_each}
use Rattle.writing.specs.Inside.Writes.{route_bytes}
use Rattle.storing.proofs.Sets.{sets_behind}

-- the count of a route's spans and then the spans are the route
pub route_written : (l : List ℕ) (from place count : ℕ) (f : ℕ → ℕ) → place ≡ from + 2
    → sets (sets l from (two_bytes count)) place (fields_bytes (map span (tabulate count f))) ≡ sets l from (route_bytes (tabulate count f))
unfolding route_bytes two_bytes
route_written l from place count f e =
    sets_behind l from place (two_bytes count) (fields_bytes (map span (tabulate count f))) (omega arith)
    ∙ ap (λ (n : ℕ). sets l from (two_bytes n ++ fields_bytes (map span (tabulate count f)))) (sym (length_tabulate count f))

-- the code and the two routes, one behind another, are the answer to 0C
pub routes_written : (l : List ℕ) (n m place : ℕ) (f g : ℕ → ℕ) → place ≡ 3 + 2 * n
    → sets (sets (sets l 0 (0x8C ∷ [])) 1 (route_bytes (tabulate n f))) place (route_bytes (tabulate m g))
    ≡ sets l 0 (answer_bytes (plain (routes_are (tabulate n f) (tabulate m g))))
unfolding route_bytes answer_bytes answer_fields plain_fields fields_bytes field_bytes two_bytes
routes_written l n m place f g e =
    let first = tabulate n f in
    let second = tabulate m g in
    rw (
      sets_behind l 0 1 (0x8C ∷ []) (route_bytes first) refl,
      sets_behind l 0 place (0x8C ∷ route_bytes first) (route_bytes second)
          (omega (arith, length_two_bytes_each span spans_in_two_bytes first, length_tabulate n f)),
      bytes_then_counted span spans_in_two_bytes first second,
    )
