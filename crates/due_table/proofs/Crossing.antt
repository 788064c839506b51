-- Tables may go to other threads, and be lent to them.
use denote.Param.Send.{IsSend, IsSync, sendable}
use denote.Struct.Field.{unit-field}
use Rattle.std.proofs.Crossing.{crosses}
use Rattle.world_table.proofs.Crossing.{table_send, table_sync}
use Rattle.due_table.specs.contracts.keys.Keys as keys
use Rattle.due_table.specs.contracts.table.DueTable as due

nothing_send : IsSend unit-field.row
nothing_send = search (sendable, crosses) depth 60

nothing_sync : IsSync unit-field.row
nothing_sync = search (sendable, crosses) depth 60

keys_send : IsSend keys.the_row
keys_send =
    let several = table_send unit-field.row nothing_send nothing_sync in
    search (sendable, crosses, several) depth 60

keys_sync : IsSync keys.the_row
keys_sync =
    let several = table_sync unit-field.row nothing_send nothing_sync in
    search (sendable, crosses, several) depth 60

pub due_send : IsSend due.the_row
due_send =
    let moments = table_send keys.the_row keys_send keys_sync in
    search (sendable, crosses, moments) depth 60

pub due_sync : IsSync due.the_row
due_sync =
    let moments = table_sync keys.the_row keys_send keys_sync in
    search (sendable, crosses, moments) depth 60
