-- Records of edges and those that hold: each table is computed at once.
use mathlib.Core.List.{List, [], ◌∷◌, map}
use mathlib.Core.Option.{none, some}
use mathlib.Core.Path.{◌≡◌, refl}
use Prim.Native.Nat.{ℕ}
use Rattle.graph.specs.Lists
use Rattle.naming.specs.Survey.{Survey, surveys_of, is_latest, first_latest, holding}

-- An edge, a day and a length.
abbrev survey : ℕ → ℕ → ℕ → Survey
survey e day metres = record { measured = e; day = day; metres = metres }

-- Of edge 0 an earlier day after a later one and a third day after both; of edge 1 one day twice, and a third time behind an earlier one; of
-- edge 2 day 0 with 0 metres; of edge 3 the last day, and others before and behind it; of edge 4 none.
abbrev records : List Survey
records =
    survey 0 8 300
    ∷ survey 1 6 70
    ∷ survey 0 7 400
    ∷ survey 3 65534 1
    ∷ survey 1 6 80
    ∷ survey 3 65535 65535
    ∷ survey 2 0 0
    ∷ survey 0 9 200
    ∷ survey 1 5 90
    ∷ survey 3 65535 2
    ∷ survey 1 6 60
    ∷ survey 3 0 3
    ∷ []

-- the records that hold are these
pub records_held : map (holding records) (0 ∷ 1 ∷ 2 ∷ 3 ∷ 4 ∷ [])
    ≡ some (survey 0 9 200) ∷ some (survey 1 6 70) ∷ some (survey 2 0 0) ∷ some (survey 3 65535 65535) ∷ none ∷ []
unfolding Lists.all_in surveys_of is_latest first_latest holding
records_held = refl
