-- Claims may be lent to other threads, and a seat may go to one.
use denote.Param.Send.{IsSend, IsSync, sendable}
use denote.Param.SendFields.{as_row_sync, declared_sync}
use Rattle.std.proofs.Crossing.{crosses, frees, send, sync}
use Rattle.atomic_table.proofs.owned.Table.TheSendSync as table
use Rattle.atomic_table.proofs.shared.Seat.TheSendSync as part
use Rattle.round_claims.specs.contracts.claims.Claims as claims
use Rattle.round_claims.specs.contracts.claims.ClaimSeat as seat

inside_sync : IsSync claims.TheInside.the_row
inside_sync = declared_sync claims.TheInside.the_type (search (sendable, crosses, as_row_sync, table.the_sync, frees, send, sync) depth 40, (search (sendable, as_row_sync) depth 20, tt))

pub claims_sync : IsSync claims.the_row
claims_sync = search (sendable, inside_sync) depth 20

pub seat_send : IsSend seat.the_row
seat_send = search (sendable, crosses, part.the_send) depth 60
