-- `rewrite_into` refuses a 0B of a journal that the forecast accepts.
use Rattle.std.proofs.lemmas.Result.{err_from_is_err_and}
use Rattle.rewriting.proofs.Ends.{refused_as_told}
use Rattle.rewriting.proofs.rewrite_into.Goals as goal

pub returns-in_err-length : goal.returns-in_err-length
returns-in_err-length c =
    let p = err_from_is_err_and c.from_residual-in_err-length.result c.from_residual-in_err-length.ensures.1 in
    rw (p.1, p.2) (refused_as_told _ _ c.in_ok-forecast_of.ensures (c.in_err-length.ensures.0, c.in_err-length.ensures.1))
