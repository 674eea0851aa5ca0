-- How long answers are: no answer is longer than the greatest length among its command's facts, but for the notices, which have five
-- bytes each.
use mathlib.Core.List.{List, ◌++◌, map}
use mathlib.Core.Option.{Option, none, some}
use mathlib.Core.Path.{◌≡◌}
use Prim.Native.Nat.{ℕ, ◌+◌, ◌*◌, ◌≤◌}
use native.Mathlib.Omega.{arith}
use lib.ListN.{length, length-append}
use Rattle.graph.specs.Network.{edge_count}
use Rattle.graph.specs.Block.{shared_block}
use Rattle.graph.specs.Between.{bridges_between, cuts_between}
use Rattle.graph.specs.Route.{Choice, Serves}
use Rattle.graph.proofs.Lengths.{few_bridges_between, few_cuts_between}
use Rattle.naming.specs.Survey.{Survey, holding}
use Rattle.naming.specs.State.{State}
use Rattle.commands.specs.Bytes.{two_bytes}
use Rattle.commands.specs.Field.{cabinet, span, field_bytes, fields_bytes}
use Rattle.commands.specs.Command.{Command, add_cabinet, add_span, district_name, ring_name, shared_mesh, sole_spans, cut_cabinets, is_sole, mark_exchange, holds_exchange, add_duct_span, routes_between, record_length, span_length, exchange_share}
use Rattle.commands.specs.Answer.{Notice, span_added, plain, routes_are, plain_fields, answer_fields, answer_bytes}
use Rattle.commands.specs.Facts.{Facts, adds_cabinet, adds_span, adds_nothing, asks, mesh_answer, routes_answer, length_answer, facts, span_answer, answer_to, answer}
use Rattle.commands.specs.Refusal.{Capacities, refusal_of}
use Rattle.commands.specs.WholeRun.{notices_in}
use Rattle.commands.proofs.Bytes.{cabinets_in_two_bytes, spans_in_two_bytes, bytes_then_counted, length_two_bytes_each}
use Rattle.commands.proofs.NoticeBytes.{length_notices_bytes}
use Rattle.commands.proofs.RunBooks.{Sound}
use Rattle.commands.proofs.Routes.{routes_asked, given_served}

-- the greatest length of the answer to a command of these facts but for its notices, where there are at most so many cabinets and spans
unfoldable pub longest_of : ℕ → ℕ → Facts → ℕ
longest_of c s adds_cabinet = 3
longest_of c s (adds_span e operands demands) = 7
longest_of c s (adds_nothing q) = q.longest c s

-- 82: seven bytes, and the notices
span_length_lem : (s n : ℕ) (ts : List Notice) → length (answer_bytes (span_added s n ts)) ≤ 7 + 5 * length ts
unfolding answer_bytes answer_fields fields_bytes field_bytes two_bytes
span_length_lem s n ts = omega (arith, length_notices_bytes ts)

-- 8C: five bytes, and two for each span
pub routes_length : (ss ts : List ℕ) → length (answer_bytes (plain (routes_are ss ts))) ≡ 5 + 2 * (length ss + length ts)
unfolding answer_bytes answer_fields plain_fields fields_bytes field_bytes two_bytes
routes_length ss ts =
    let first = fields_bytes (map span ss) in
    rw
    (bytes_then_counted span spans_in_two_bytes ss ts)
    (omega (
      arith,
      length-append first (two_bytes (length ts) ++ fields_bytes (map span ts)),
      length_two_bytes_each span spans_in_two_bytes ss,
      length_two_bytes_each span spans_in_two_bytes ts,
    ))

-- 8E: the metres, or none
told_length : (o : Option Survey) → length (answer_bytes (plain (length_answer o))) ≤ 4
unfolding length_answer answer_bytes answer_fields plain_fields fields_bytes field_bytes two_bytes
told_length none = omega arith
told_length (some r) = omega arith

-- A state with at most c cabinets and s spans.
module _ (state : State) (c s : ℕ) (few_cabinets : state.book.network.vertices ≤ c) (few_spans : edge_count state.book.network ≤ s) where
  -- 85: the name of a mesh, or none
  mesh_length : (o : Option ℕ) → length (answer_bytes (plain (mesh_answer state.book o))) ≤ 4
  unfolding mesh_answer answer_bytes answer_fields plain_fields fields_bytes field_bytes two_bytes
  mesh_length none = omega arith
  mesh_length (some t) = omega arith

  module _ (choice : Choice) (caps : Capacities) (sound : Sound caps state) (serves : Serves state.book.network.rule choice) where
    -- the answer to a command that adds nothing is no longer than is said of it
    abbrev PlainNoLonger : Facts → Type 0
    PlainNoLonger adds_cabinet = Unit
    PlainNoLonger (adds_span e operands demands) = Unit
    PlainNoLonger (adds_nothing q) = length (answer_bytes (plain (q.told choice state))) ≤ q.longest c s

    plain_no_longer : (k : Command) → refusal_of caps state k ≡ none → PlainNoLonger (facts k)
    unfolding facts asks routes_answer answer_bytes answer_fields plain_fields fields_bytes field_bytes two_bytes
    plain_no_longer add_cabinet n = tt
    plain_no_longer (add_span x y) n = tt
    plain_no_longer (district_name x) n = omega arith
    plain_no_longer (ring_name x) n = omega arith
    plain_no_longer (shared_mesh x y) n = mesh_length (shared_block state.book.network x y)
    plain_no_longer (sole_spans x y) n =
        let found = bridges_between state.book.network x y in
        omega (arith, length_two_bytes_each span spans_in_two_bytes found, few_bridges_between state.book.network x y)
    plain_no_longer (cut_cabinets x y) n =
        let found = cuts_between state.book.network x y in
        omega (arith, length_two_bytes_each cabinet cabinets_in_two_bytes found, few_cuts_between state.book.network x y)
    plain_no_longer (is_sole x) n = omega arith
    plain_no_longer (mark_exchange x) n = omega arith
    plain_no_longer (holds_exchange x) n = omega arith
    plain_no_longer (add_duct_span x y d) n = tt
    plain_no_longer (routes_between x y) n =
        let found = choice state.book.network x y in
        omega (
          arith,
          routes_length found.first found.second,
          (given_served choice state.book.network sound.laws.proper serves x y (routes_asked caps state x y n)).short,
        )
    plain_no_longer (record_length x day metres) n = omega arith
    plain_no_longer (span_length x) n = omega (arith, told_length (holding state.surveys x))
    plain_no_longer exchange_share n = omega arith

    -- no answer is longer than is said of it, but for its notices
    pub answer_no_longer : (k : Command) → refusal_of caps state k ≡ none
        → length (answer_bytes (answer choice state k)) ≤ longest_of c s (facts k) + 5 * length (notices_in (answer choice state k))
    unfolding answer
    answer_no_longer k n = go (facts k) (plain_no_longer k n)
      where
        go : (f : Facts) → PlainNoLonger f
            → length (answer_bytes (answer_to choice state f)) ≤ longest_of c s f + 5 * length (notices_in (answer_to choice state f))
        go adds_cabinet h = unfold answer_to answer_bytes answer_fields fields_bytes field_bytes two_bytes longest_of notices_in in omega arith
        go (adds_span e operands demands) h = unfold answer_to span_answer longest_of notices_in in span_length_lem _ _ _
        go (adds_nothing q) h = unfold answer_to longest_of notices_in in omega arith
