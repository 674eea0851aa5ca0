-- The refusals in code, as the table of causes has them.
use Rattle.std.specs.Prelude as P
use Rattle.std.proofs.Math.Option as Maybe
use Rattle.commands.specs.Refusal as Table
use Rattle.refusals.specs.declared.Refusal.{Refusal}
use Rattle.refusals.specs.declared.Refusal.TheVariants as R

-- The cause of a refusal.
abbrev pub cause_of : Refusal → Table.Refusal
cause_of R.BadCapacity = Table.bad_capacity
cause_of R.ShortBuffer = Table.short_buffer
cause_of R.LongJournal = Table.long_journal
cause_of R.BadByte = Table.bad_byte
cause_of R.CutOperands = Table.cut_operands
cause_of R.UnknownCabinet = Table.unknown_cabinet
cause_of R.UnknownSpan = Table.unknown_span
cause_of R.EqualCabinets = Table.equal_cabinets
cause_of R.Full = Table.full
cause_of R.TwoDistricts = Table.two_districts
cause_of R.NoRoom = Table.no_room
cause_of R.AlreadyExchange = Table.already_exchange
cause_of R.NoDuct = Table.no_duct
cause_of R.NoSharedRing = Table.no_shared_ring
cause_of R.DuctTold = Table.duct_told
cause_of R.LongResult = Table.long_result
cause_of R.RefusedJournal = Table.refused_journal
cause_of R.BadSeam = Table.bad_seam
cause_of R.LongJoin = Table.long_join

-- The cause of a refusal, if there is one.
abbrev pub causes_of : P.Option Refusal → Maybe.Option Table.Refusal
causes_of P.None = Maybe.none
causes_of (P.Some refusal) = Maybe.some (cause_of refusal)
