-- The marked histories, those with exchanges, with ducts, with routes, with survey lengths and with sizes, the shares, the calls of the run's
-- entry, the forecasts, those to the byte, the rewritings and the joins hold of the definitions: each table is computed afresh, at once. (By
-- its name this file comes before all laws, so that a wrong definition is refused here first.)
use mathlib.Core.List.{List, [], ◌∷◌, ◌++◌, map}
use mathlib.Core.Logic.{◌≢◌}
use mathlib.Core.Path.{◌≡◌, refl, ap}
use native.Mathlib.Omega.{arith}
use lib.ListN.{length, replicate}
use Rattle.graph.specs.Lists
use Rattle.graph.specs.Cycle
use Rattle.graph.specs.Travel
use Rattle.graph.specs.Route
use Rattle.commands.specs.Answer.{answer_bytes}
use Rattle.commands.specs.Exchange.{thousandths}
use Rattle.commands.specs.Register.{program, program_report}
use Rattle.commands.specs.Forecast.{forecast}
use Rattle.commands.specs.Histories.{History, EachShown, histories}
use Rattle.commands.specs.Histories
use Rattle.commands.specs.ExchangeHistories
use Rattle.commands.specs.ExchangeHistories.{exchange_histories, shares}
use Rattle.commands.specs.DuctHistories
use Rattle.commands.specs.DuctHistories.{duct_histories}
use Rattle.commands.specs.RouteHistories
use Rattle.commands.specs.RouteHistories.{route_histories, offers, judged}
use Rattle.commands.specs.SurveyHistories
use Rattle.commands.specs.SurveyHistories.{survey_histories}
use Rattle.commands.specs.SizeHistories
use Rattle.commands.specs.SizeHistories.{size_histories}
use Rattle.commands.specs.RewriteHistories
use Rattle.commands.specs.RewriteHistories.{read_anew, doubled_span, old_readings}
use Rattle.commands.specs.JoinHistories
use Rattle.commands.specs.JoinHistories.{joining_of, joins, joined_of, joined_histories, answers_alone, answers_behind, answers_staying, raised_bytes}
use Rattle.commands.specs.ExactHistories
use Rattle.commands.specs.ExactHistories.{foretold_exactly, exact_calls}
use Rattle.commands.specs.Calls.{sevens, call, at_start, start_calls, stop_calls, cabinet_answers, accepted_calls, entered, foretold, forecasts, rewrite_call, rewriting_of, spans02, spans0b, rewritings}
use Rattle.commands.proofs.Computed.{computed}

-- the history that the program makes of the same input
abbrev made : History → History
made h = record { input = h.input; output = program h.input; report = program_report h.input }

-- of the whole table the program makes the table
histories-made : map made histories ≡ histories
unfolding computed Histories.output Histories.accepted Histories.refused_with Histories.notice Histories.group Histories.empty_journal Histories.triangle Histories.one_span Histories.two_spans Histories.chain Histories.two_meshes Histories.two_rings Histories.joining_answers Histories.two_rings_joined Histories.two_rings_joined_in_ducts Histories.from_itself_to_itself Histories.span_to_itself Histories.span_to_nowhere Histories.across_districts Histories.cut_short Histories.histories
histories-made = refl

-- and of the one with exchanges
exchange_histories-made : map made exchange_histories ≡ exchange_histories
unfolding computed Histories.output Histories.accepted Histories.refused_with Histories.notice ExchangeHistories.exchange_in_one_of_two_rings ExchangeHistories.share_of_cabinets ExchangeHistories.shares_in_thirds ExchangeHistories.shares_in_sixteenths ExchangeHistories.marked_twice ExchangeHistories.marked_nowhere ExchangeHistories.asked_nowhere ExchangeHistories.exchange_histories
exchange_histories-made = refl

-- and of the one with ducts
duct_histories-made : map made duct_histories ≡ duct_histories
unfolding computed Histories.output Histories.accepted Histories.refused_with Histories.notice Histories.group DuctHistories.two_in_one_duct DuctHistories.two_in_two_ducts DuctHistories.beside_a_duct DuctHistories.loop_around_a_duct DuctHistories.measured_in_spans DuctHistories.one_number_at_two_pairs DuctHistories.greatest_duct DuctHistories.two_with_no_duct_told DuctHistories.loop_with_no_duct_told DuctHistories.in_no_duct DuctHistories.duct_histories
duct_histories-made = refl

-- and of the one with routes
route_histories-made : map made route_histories ≡ route_histories
unfolding computed Histories.output Histories.accepted Histories.refused_with Histories.notice RouteHistories.routes_in_two_ducts RouteHistories.triangle_spans RouteHistories.routes_in_triangle RouteHistories.ladder_spans RouteHistories.rung_given_back RouteHistories.two_meshes_spans RouteHistories.routes_through_cut RouteHistories.mates_and_a_span RouteHistories.route_beside_mates RouteHistories.mates_on_the_way_spans RouteHistories.mates_on_the_way RouteHistories.only_mates RouteHistories.only_with_no_duct_told RouteHistories.across_rings RouteHistories.routes_across_districts RouteHistories.routes_to_itself RouteHistories.routes_to_nowhere RouteHistories.routes_from_nowhere RouteHistories.route_histories
route_histories-made = refl

-- and of the one with survey lengths
survey_histories-made : map made survey_histories ≡ survey_histories
unfolding computed Histories.output Histories.accepted Histories.refused_with Histories.notice SurveyHistories.one_span SurveyHistories.one_span_answers SurveyHistories.measured_once SurveyHistories.earlier_after_later SurveyHistories.one_day_twice SurveyHistories.day_nought SurveyHistories.last_day SurveyHistories.each_span_its_own SurveyHistories.measured_in_a_duct SurveyHistories.measured_nowhere SurveyHistories.length_nowhere SurveyHistories.survey_histories
survey_histories-made = refl

-- and of the one with sizes
size_histories-made : map made size_histories ≡ size_histories
unfolding computed Histories.output Histories.accepted Histories.notice Histories.group SizeHistories.alone SizeHistories.district_grows SizeHistories.rings_of_one_district SizeHistories.size_histories
size_histories-made = refl

-- so each of a table holds
each_shown : (hs : List History) → map made hs ≡ hs → EachShown hs
each_shown [] e = tt
each_shown (h ∷ hs) e =
    let one : made h ≡ h = cc in
    (record { output_is = ap (λ k. k.output) one; report_is = ap (λ k. k.report) one }, each_shown hs (cc))

-- every marked history holds of the definitions
pub histories_shown : EachShown histories
histories_shown = each_shown histories histories-made

-- and every history with exchanges
pub exchange_histories_shown : EachShown exchange_histories
exchange_histories_shown = each_shown exchange_histories exchange_histories-made

-- and every history with ducts
pub duct_histories_shown : EachShown duct_histories
duct_histories_shown = each_shown duct_histories duct_histories-made

-- and every history with routes
pub route_histories_shown : EachShown route_histories
route_histories_shown = each_shown route_histories route_histories-made

-- and every history with survey lengths
pub survey_histories_shown : EachShown survey_histories
survey_histories_shown = each_shown survey_histories survey_histories-made

-- and every history with sizes
pub size_histories_shown : EachShown size_histories
size_histories_shown = each_shown size_histories size_histories-made

-- Each share is the one in the table.
pub shares_shown : map (λ s. thousandths s.part s.whole) shares ≡ map (λ s. s.share) shares
unfolding thousandths ExchangeHistories.share_of ExchangeHistories.shares
shares_shown = refl

-- The pairs that are said to serve do, and the others do not.
pub offers-judged : map judged offers ≡ map (λ o. o.serves) offers
unfolding computed Lists.distinct Cycle.joins Cycle.leads Travel.visited Route.steps_along Route.is_route Route.apart Route.serve RouteHistories.two_ducts_spans RouteHistories.triangle_spans RouteHistories.ladder_spans RouteHistories.two_meshes_spans RouteHistories.mates_and_a_span RouteHistories.mates_on_the_way_spans RouteHistories.offer RouteHistories.judged RouteHistories.offers
offers-judged = refl

-- The entry returns and leaves so for every call.
pub calls_shown : map entered (start_calls ++ stop_calls ++ accepted_calls) ≡ map (λ c. c.outcome) (start_calls ++ stop_calls ++ accepted_calls)
unfolding computed sevens call at_start start_calls stop_calls cabinet_answers accepted_calls entered
calls_shown = refl

-- The program writes a place in four bytes: 9 at place 256.
pub place_shown : program (replicate 257 0x01) ≡ cabinet_answers 256 ++ 0xFF ∷ 9 ∷ 0 ∷ 0 ∷ 1 ∷ 0 ∷ []
unfolding computed cabinet_answers
place_shown = refl

-- And place 0 for number 3.
pub long_input_shown : program (replicate 65537 0x01) ≡ 0xFF ∷ 3 ∷ 0 ∷ 0 ∷ 0 ∷ 0 ∷ []
unfolding computed
long_input_shown = refl

-- So much is forecast of each journal.
pub forecasts_shown : map (λ f. forecast f.journal) forecasts ≡ map (λ f. f.forecast) forecasts
unfolding computed foretold forecasts
forecasts_shown = refl

-- So much to the byte, and so the working table is left.
pub exact_calls_shown : map foretold_exactly exact_calls ≡ map (λ c. c.outcome) exact_calls
unfolding computed ExactHistories.exact_call ExactHistories.foretold_exactly ExactHistories.exact_at_start ExactHistories.exact_stopped ExactHistories.every_command ExactHistories.exact_accepted ExactHistories.exact_calls
exact_calls_shown = refl

-- So each journal is rewritten.
pub rewritings_shown : map rewriting_of rewritings ≡ map (λ c. c.rewriting) rewritings
unfolding computed rewrite_call rewriting_of spans02 spans0b rewritings
rewritings_shown = refl

-- So journals of the old reading are rewritten, and answered before and after.
pub old_readings_shown : map (λ h. read_anew h.journal) old_readings ≡ old_readings
unfolding computed Histories.output Histories.notice Histories.group RewriteHistories.answers_and_number RewriteHistories.answered_under RewriteHistories.read_anew RewriteHistories.in_one_ring RewriteHistories.doubled_span RewriteHistories.routes_and_refusal RewriteHistories.doubled_routes RewriteHistories.old_readings
old_readings_shown = refl

-- And the first would be answered otherwise as it stands.
pub rewriting_needed : doubled_span.before ≢ doubled_span.otherwise
unfolding computed Histories.output Histories.notice Histories.group RewriteHistories.in_one_ring RewriteHistories.doubled_span
rewriting_needed e = omega (arith, ap length e)

-- So journals are joined.
pub joins_shown : map joining_of joins ≡ map (λ c. c.joining) joins
unfolding computed JoinHistories.seam JoinHistories.join_call JoinHistories.joining_of JoinHistories.pair JoinHistories.joins
joins_shown = refl

-- And so results are answered.
pub joined_histories_shown : map joined_of joined_histories ≡ joined_histories
unfolding computed Histories.output Histories.notice Histories.group RewriteHistories.answers_and_number JoinHistories.seam JoinHistories.joined_of JoinHistories.questions_behind JoinHistories.rings_behind JoinHistories.joined_histories
joined_histories_shown = refl

-- And so answers are raised.
pub raised_answers_shown : map raised_bytes (answers_alone ++ answers_staying) ≡ map answer_bytes (answers_behind ++ answers_staying)
unfolding computed Histories.notice Histories.group JoinHistories.answers_alone JoinHistories.answers_behind JoinHistories.answers_staying JoinHistories.raised_bytes
raised_answers_shown = refl
