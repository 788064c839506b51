use Rattle.std.proofs.Common.{ℕ, List, sym, ap, ◌∙◌, subst}
use Rattle.telnet_line.specs.Telnet.{IsText}
use Rattle.telnet_line.specs.Events.{events_given}
use Rattle.telnet_line.specs.Drafts.{begun_of}
use Rattle.telnet_line.proofs.Readings.{fed, fed_texts}
use Rattle.telnet_line.proofs.reader.Reader.feed.Goals as goal

pub returns-clause-ok : goal.returns-clause-ok
returns-clause-ok c = λ stream past h.
    let did = c.in_ok-take_all.ensures in
    fed stream c.args.piece.now past c.args.self.now _ _ _ _ (ap (λ (x : List ℕ). record { begun = begun_of c.self.inside.begun; line = x }) c.in_ok-copy.ensures.same ∙ c.self.view_is) (ap events_given c.new.ensures.items) did.reading did.events h

pub returns-clause-lines : goal.returns-clause-lines
returns-clause-lines c =
    let did = c.in_ok-take_all.ensures in
    fed_texts c.args.piece.now _ _ _ (subst IsText (sym c.in_ok-copy.ensures.same) c.in_ok-copy.ensures.text) (ap events_given c.new.ensures.items) did.events
