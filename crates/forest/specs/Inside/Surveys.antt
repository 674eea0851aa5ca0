-- The survey that the table keeps of an edge, and what a survey more does to the words.
use Rattle.std.specs.Prelude.{ℕ, ◌+◌, ◌*◌, ◌/◌, ◌%◌, Bool, cond, not, ◌||◌, List, Option, Some, None, nat_le, nat_lt}
use Rattle.numbers.specs.declared.Limits.{Limits}
use Rattle.table.specs.Inside.Column
use Rattle.table.specs.Inside.Layout.{cell, put, edge_area}
use Rattle.forest.specs.Inside.Words.{duct_of}

-- A survey of edge s is kept: the upper half of its duct's word is not 0.
unfoldable pub is_surveyed : List ℕ → Limits → ℕ → Bool
is_surveyed t limits s = nat_le 65536 (cell t (edge_area limits) Column.duct s)

-- Its day and its metres.
abbrev pub kept_day : List ℕ → Limits → ℕ → ℕ
kept_day t limits s = cell t (edge_area limits) Column.survey s / 65536

abbrev pub kept_metres : List ℕ → Limits → ℕ → ℕ
kept_metres t limits s = cell t (edge_area limits) Column.survey s % 65536

-- A survey of this day is to be kept instead: none is kept, or that of an earlier day.
unfoldable pub is_replaced : List ℕ → Limits → ℕ → ℕ → Bool
is_replaced t limits s day = not (is_surveyed t limits s) || nat_lt (kept_day t limits s) day

-- The table with a survey of the edge stored.
unfoldable pub survey_stored : List ℕ → Limits → ℕ → ℕ → ℕ → List ℕ
survey_stored t limits s day metres =
    put (put t (edge_area limits) Column.survey s (day * 65536 + metres)) (edge_area limits) Column.duct s (65536 + duct_of t limits s)

-- The table after a survey of the edge.
unfoldable pub survey_table : List ℕ → Limits → ℕ → ℕ → ℕ → List ℕ
survey_table t limits s day metres = cond (is_replaced t limits s day) (survey_stored t limits s day metres) t

-- The metres of the survey that is kept.
unfoldable pub length_in : List ℕ → Limits → ℕ → Option ℕ
length_in t limits s = cond (is_surveyed t limits s) (Some (kept_metres t limits s)) None
