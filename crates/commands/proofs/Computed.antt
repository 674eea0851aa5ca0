-- The definitions of the register, of the forecasts, of rewriting and of joining opened all at once, so that their values on plain numbers are computed.
use mathlib.Core.List.{List}
use Prim.Native.Nat.{ℕ}
use Rattle.graph.specs.Below
use Rattle.graph.specs.Lists
use Rattle.graph.specs.Labels
use Rattle.graph.specs.Network
use Rattle.graph.specs.Groups
use Rattle.graph.specs.Block
use Rattle.graph.specs.Between
use Rattle.ways.specs.Search
use Rattle.ways.specs.Used
use Rattle.ways.specs.TwoRoutes
use Rattle.naming.specs.Rename
use Rattle.naming.specs.Book
use Rattle.naming.specs.Lookup
use Rattle.naming.specs.Survey
use Rattle.naming.specs.State
use Rattle.naming.specs.Log
use Rattle.commands.specs.Bytes
use Rattle.commands.specs.Field
use Rattle.commands.specs.Command
use Rattle.commands.specs.Exchange
use Rattle.commands.specs.Facts
use Rattle.commands.specs.Refusal
use Rattle.commands.specs.Answer
use Rattle.commands.specs.Text
use Rattle.commands.specs.Run
use Rattle.commands.specs.Entry
use Rattle.commands.specs.Register
use Rattle.commands.specs.Forecast
use Rattle.commands.specs.Exact
use Rattle.commands.specs.Rewrite
use Rattle.commands.specs.Surveys
use Rattle.commands.specs.Join

-- The register. To unfold this is to unfold all that it, the forecasts, rewriting and joining are defined by, and the rule of the old reading.
unfoldable pub computed : Refusal.Capacities → List ℕ → Entry.Buffers → Entry.Outcome
unfolding Below.any_below Below.all_below Below.least_below Below.count Below.listed Below.tabulate Lists.all_in Lists.is_in Labels.relabel Labels.labels Labels.same Network.edge_between Network.edge_in_duct Network.touches Network.other_end Network.parallel Network.same_duct Network.one_duct Network.edge_count Network.edge Network.add_vertex Network.add_edge Network.mates Network.nothing Network.loss_of Network.without Network.kept Network.joined Groups.component Groups.parts Groups.bridge Groups.bridge_block Block.link_at Block.link Block.pairs_below Block.links Block.block Block.on_block Block.at_both Block.shared_block Between.insert Between.sort Between.least_mate Between.is_bridge_between Between.bridge_before Between.bridges_between Between.is_cut_between Between.cut_before Between.cuts_between Search.at_goal Search.linked Search.look Search.look_below Search.turn Search.turns Search.search Search.way_by Search.way Used.unused Used.is_used Used.mate_used Used.one_more Used.along_used Used.step_taken Used.way_taken TwoRoutes.edges_of TwoRoutes.way_more TwoRoutes.with_one_more TwoRoutes.none_back TwoRoutes.way_used TwoRoutes.routes_used TwoRoutes.two_routes Rename.size Rename.name_of Rename.changed_items Rename.changes_between Rename.better Rename.best_of Rename.candidate Rename.holds_several Rename.best_name Rename.rename Book.empty_book Book.enter_vertex Book.enter_edge Book.feed Book.feed_all Lookup.group_of Lookup.component_of Lookup.bridge_block_of State.empty_state State.after_addition State.marks_after State.surveys_after State.after_recording Survey.surveys_of Survey.is_latest Survey.first_latest Survey.holding Log.greatest Log.one_bit Log.highest_bit Bytes.number Bytes.two_bytes Bytes.four_bytes Command.form Command.forms Command.operand Command.read_form Command.read_command Command.command_byte Facts.asks Facts.mesh_answer Facts.routes_answer Facts.length_answer Facts.facts Facts.operands_of Facts.demands_of Facts.addition_of Facts.addition Facts.recording_of Facts.recording Exchange.ring_holds_exchange Exchange.with_exchange Exchange.thousandths Exchange.share_with_exchange Facts.command_bytes Refusal.refusal_number Refusal.first_that_applies Refusal.cabinet_known Refusal.span_known Refusal.cabinets_known Refusal.spans_known Refusal.met Refusal.cause Refusal.meets Refusal.full_for Refusal.is_full Refusal.lines Refusal.refusal_of Field.field_bytes Field.fields_bytes Answer.kind_byte Answer.item_field Answer.notice_fields Answer.notices_fields Answer.change_notice Answer.changes Answer.notices Answer.bool_byte Answer.plain_fields Answer.answer_fields Answer.answer_bytes Facts.after Facts.span_answer Facts.answer_to Facts.answer Text.ends_with Text.followed_by Text.text_from Text.text_of Text.place_behind Text.journal_bytes Run.stop Run.and_then Run.accepted_in Run.run_over Run.run_text Run.fitting Run.run_within Run.commands_of Run.bytes_of_answers Run.place_after Entry.work_needed Entry.good_capacities Entry.short_buffers Entry.start_lines Entry.whole_unless Entry.whole_run Entry.book_after Entry.number_of Entry.report_of Entry.over Entry.outcome Entry.entry_under Register.register_rule Register.register_routes Register.register Register.ample_run Register.program_capacities Register.ending Register.program_output Register.program_run Register.program Register.whole_report Register.program_report Forecast.is_cabinet Forecast.is_span Forecast.count_adding Forecast.cabinet_commands Forecast.span_commands Forecast.longest_plain Forecast.plain_lengths Forecast.length_for Forecast.sufficient Forecast.no_forecast Forecast.forecast_text Forecast.forecast Exact.exact_run Exact.exact_of Exact.exact_forecast Exact.exact_work Rewrite.in_own_duct Rewrite.rewrite_command Rewrite.rewrite_from Rewrite.rewrite_commands Rewrite.not_rewritten Rewrite.first_duct_told Rewrite.result_within Rewrite.rewrite_reads Rewrite.rewrite_text Rewrite.rewrite Surveys.number_in Facts.state_after Join.raise_item Join.raise_field Join.raise_fields Join.with_operands Join.raise_command Join.seam_command Join.join_capacities Join.run_alone Join.is_some Join.is_refused Join.state_behind Join.counts_of Join.counts_in Join.good_seam Join.joined_bytes Join.join_lines Join.joining_unless Join.join
computed = Register.register
