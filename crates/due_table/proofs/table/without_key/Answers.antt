use Rattle.std.proofs.Common.{sym}
use Rattle.due_table.proofs.Moments.{kept_none, kept_there, shared}
use Rattle.due_table.proofs.table.without_key.Goals as goal

pub returns-in-None : goal.returns-in-None
returns-in-None c = shared _ c.args.moments.now _ (kept_none c.args.moment c.args.key _ (sym c.in-None.ensures)) c.share.ensures

pub returns-else-has : goal.returns-else-has
returns-else-has c =
    shared _ c.args.moments.now _ (kept_there c.args.moment c.args.key c.in-Some.keys.now _ c.requires (sym c.in-Some.ensures) c.if-has.ensures.absent) c.share-else-has.ensures
