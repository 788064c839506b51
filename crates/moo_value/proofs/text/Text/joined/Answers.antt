use Rattle.std.proofs.Common.{◌++◌}
use Rattle.moo_value.proofs.Characters.{is_text-append}
use Rattle.moo_value.proofs.text.Text.joined.Goals as goal

pub from_string-requires : goal.from_string-requires
from_string-requires c =
    rw (c.in_ok-push_str-3.ensures.bytes, c.in_ok-push_str-2.ensures.bytes, c.in_ok-push_str.ensures.bytes, c.new-text.ensures.bytes)
    (is_text-append (c.args.first.now ++ c.args.second.now) c.args.third.now (is_text-append c.args.first.now c.args.second.now c.requires.first c.requires.second) c.requires.third)
