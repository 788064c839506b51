use Rattle.std.proofs.Common.{refl}
use Rattle.moo_token.specs.Views.{place_of}
use Rattle.moo_token.specs.Meaning.{place_meant}
use Rattle.reader_begins.proofs.TermsRead.{term_from}
use Rattle.reader_begins.proofs.term.term_before.Goals as goal

pub returns-then-ends_before : goal.returns-then-ends_before
returns-then-ends_before c =
    term_from c.args.level (record { operator = c.in-Some-Some.operator; number = c.in-Some-Some.number; line = c.args.two.now.line })
    (place_meant (place_of c.args.one.now)) (place_meant (place_of c.args.two.now)) (place_meant (place_of c.args.three.now))
    c.in-Some-Some.is-0 c.in-Some-Some.is-1 c.token_joint.ensures c.tight_operator-operator.ensures.joint c.tight_operator-operator.ensures.tight
    c.integer_in-number.ensures refl c.right_level.ensures c.ends_before.ensures c.if-ends_before.true
