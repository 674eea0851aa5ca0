-- `join_into` leaves what its steps come to, wherever it ends.
use mathlib.Core.Path.{sym, ◌∙◌, ap₂}
use native.Mathlib.Omega.{arith}
use lib.ListN.{length}
use Rattle.std.proofs.Common.{Ok}
use Rattle.std.proofs.lemmas.Result.{err_from_is_err_and}
use Rattle.joining.proofs.Stages.{looked_puttable, room_for_seams, left_uncounted, left_looked, left_put, joined_so, refused_so}
use Rattle.joining.proofs.joined.join_into.Goals as goal

pub returns-in_err-counts : goal.returns-in_err-counts
returns-in_err-counts c =
    let p = err_from_is_err_and c.from_residual.result c.from_residual.ensures.1 in
    rw (p.1, p.2)
    (refused_so c.args.first.now c.args.second.now c.args.seams.now c.args.work.now c.args.out.now c.count_both.ensures
    (left_uncounted (length c.args.work.now) c.args.first.now c.args.second.now c.args.seams.now c.args.out.now
    (sym c.in_err-counts.was ∙ c.count_both.ensures.counts_are)))

pub returns-in_err-look_at : goal.returns-in_err-look_at
returns-in_err-look_at c =
    let p = err_from_is_err_and c.from_residual-in_err-look_at.result c.from_residual-in_err-look_at.ensures.1 in
    rw (p.1, p.2)
    (refused_so c.args.first.now c.args.second.now c.args.seams.now c.args.work.now c.args.out.now c.count_both.ensures
    (left_looked (length c.args.work.now) c.args.first.now c.args.second.now c.args.seams.now c.args.out.now
    (sym c.in_ok-counts.was ∙ c.count_both.ensures.counts_are) c.in_err-look_at.ensures.looked))

pub put_journals-requires : goal.put_journals-requires
put_journals-requires c =
    looked_puttable (length c.args.work.now) c.args.first.now c.args.second.now c.args.seams.now c.args.out.now
    (sym c.in_ok-counts.was ∙ c.count_both.ensures.counts_are)

pub returns-in_err-front : goal.returns-in_err-front
returns-in_err-front c =
    let p = err_from_is_err_and c.from_residual-in_err-front.result c.from_residual-in_err-front.ensures.1 in
    rw (p.1, p.2)
    (refused_so c.args.first.now c.args.second.now c.args.seams.now c.args.work.now c.args.out.now c.count_both.ensures
    (left_put (length c.args.work.now) c.args.first.now c.args.second.now c.args.seams.now c.args.out.now
    (sym c.in_ok-counts.was ∙ c.count_both.ensures.counts_are) c.in_ok-look_at.ensures.looked c.in_err-front.ensures))

pub put_seams-requires : goal.put_seams-requires
put_seams-requires c =
    (room_for_seams (length c.args.work.now) c.args.first.now c.args.second.now c.args.seams.now c.args.out.now c.in_ok-counts.counts
    c.in_ok-front.ensures).room

pub overflow_cast-result : goal.overflow_cast-result
overflow_cast-result c =
    let room =
    room_for_seams (length c.args.work.now) c.args.first.now c.args.second.now c.args.seams.now c.args.out.now c.in_ok-counts.counts
    c.in_ok-front.ensures in
    omega (arith, room.short, c.put_seams.ensures.place)

pub returns : goal.returns
returns c =
    joined_so c.args.first.now c.args.second.now c.args.seams.now c.args.work.now c.args.out.now c.count_both.ensures
    (ap₂ (λ n l. record { place = Ok n; out = l }) c.put_seams.ensures.place c.put_seams.ensures.stored
    ∙ left_put (length c.args.work.now) c.args.first.now c.args.second.now c.args.seams.now c.args.out.now
    (sym c.in_ok-counts.was ∙ c.count_both.ensures.counts_are) c.in_ok-look_at.ensures.looked c.in_ok-front.ensures)
    (λ e. c.in_ok-look_at.ensures.ducts)
