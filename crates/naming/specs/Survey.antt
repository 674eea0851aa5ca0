-- Surveys of edges (document 02, request 6): the records that are entered, and which of them holds.
use Rattle.std.specs.Prelude.{Bool, true, not, cond, ◌&&◌, List, [], ◌∷◌, ◌++◌, ◌≡◌, ℕ, eqb, leb, ltb}
use Rattle.std.proofs.Math.Option.{Option, none, some}
use Rattle.graph.specs.Lists.{all_in}

-- A record: the edge that was measured, the day, and its length in metres.
pub record Survey : Type 0 where
  pub measured : ℕ
  pub day : ℕ
  pub metres : ℕ

-- The records of an edge, in the order in which they were entered.
unfoldable pub surveys_of : ℕ → List Survey → List Survey
surveys_of e [] = []
surveys_of e (r ∷ later) =
    let rest = surveys_of e later in
    cond (eqb r.measured e) (r ∷ rest) rest

-- Of these records none has a later day than r.
unfoldable pub is_latest : List Survey → Survey → Bool
is_latest records r = all_in (λ q. leb q.day r.day) records

-- The first record of a list that is of the latest day among these records.
unfoldable pub first_latest : List Survey → List Survey → Option Survey
first_latest records [] = none
first_latest records (r ∷ later) = cond (is_latest records r) (some r) (first_latest records later)

-- The record that holds for an edge, if there is one: that of the latest day; of records with one day, the one entered first.
unfoldable pub holding : List Survey → ℕ → Option Survey
holding records e = first_latest (surveys_of e records) (surveys_of e records)

-- Of these records r is the one of the latest day, and of those with its day the first: all before it are of earlier days, and none behind it
-- is of a later day. (`holding_exactly`, `exactly_holding`: just such a record of the edge's holds.)
pub record Latest (records : List Survey) (r : Survey) : Type 0 where
  pub before : List Survey
  pub behind : List Survey
  pub split : records ≡ before ++ r ∷ behind
  pub earlier : all_in (λ q. ltb q.day r.day) before ≡ true
  pub no_later : all_in (λ q. leb q.day r.day) behind ≡ true

-- What is kept of an edge's records as they come in: a record replaces the one kept if its day is later.
unfoldable pub replaced : Option Survey → Survey → Option Survey
replaced none r = some r
replaced (some kept) r = some (cond (ltb kept.day r.day) r kept)

unfoldable pub kept_behind : ℕ → Option Survey → List Survey → Option Survey
kept_behind e kept [] = kept
kept_behind e kept (r ∷ later) = kept_behind e (cond (eqb r.measured e) (replaced kept r) kept) later

-- (`kept_is_holding`: it is the record that holds.)
unfoldable pub kept_of : ℕ → List Survey → Option Survey
kept_of e records = kept_behind e none records

-- Two records of one edge and one day.
unfoldable pub same_day : Survey → Survey → Bool
same_day r q = eqb r.measured q.measured && eqb r.day q.day

-- The days of each edge's records differ pairwise. (`arranged_otherwise`: then the order of the records is of no account, and
-- `arranged_for_edge`: for one edge, if its own do.)
unfoldable pub days_differ : List Survey → Bool
days_differ [] = true
days_differ (r ∷ later) = all_in (λ q. not (same_day r q)) later && days_differ later
