use Rattle.std.proofs.Common.{sym}
use Rattle.due_table.proofs.Moments.{with_there, shared}
use Rattle.due_table.proofs.table.with_key.Goals as goal

pub returns-then-has : goal.returns-then-has
returns-then-has c =
    shared _ c.args.moments.now _ (with_there c.args.moment c.args.key c.in-Some.keys.now _ c.requires.sound (sym c.in-Some.ensures) c.if-has.ensures.there) c.share.ensures
