-- Shortcuts may be lent to other threads.
use denote.Param.Send.{IsSync, sendable}
use Rattle.std.proofs.Crossing.{crosses}
use Rattle.checkpoint_text.specs.contracts.checkpoint_objects.shortcut.Shortcut as shortcut

pub shortcut_sync : IsSync shortcut.the_row
shortcut_sync = search (sendable, crosses) depth 60
