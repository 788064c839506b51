use Rattle.std.proofs.Common.{◌≡◌, refl, subst, IsFalse, MatchOption}
use Rattle.std.specs.Prelude.{string_bytes}
use Rattle.spec_value.specs.Datum.{is_text}
use Rattle.moo_session.proofs.Adding.{adds_unfit, no_text}
use Rattle.moo_session.proofs.draft.Draft.say.Goals as goal

pub returns-in-None : goal.returns-in-None
returns-in-None c =
    let told = subst (λ o. MatchOption o (IsFalse (is_text (string_bytes c.args.line.now))) (λ t. t ≡ string_bytes c.args.line.now)) c.in-None.is c.in_ok-text.ensures in
    adds_unfit _ _ _ refl (no_text c.args.self.now.next c.args.self.now.moment c.args.connection c.args.self.now.key (string_bytes c.args.line.now) told)
