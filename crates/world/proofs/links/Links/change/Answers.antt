use Rattle.std.proofs.Common.{◌≡◌, ◌∙◌, ℕ, Option, Some, IfSome, ap, subst}
use Rattle.std.specs.Ordering.{nat_cmp}
use Rattle.spec_world.specs.World.{Link}
use Rattle.world.specs.LinkTable.{IsKeyed, by_person}
use Rattle.world.specs.Numbered.{unsigned_key}
use Rattle.world.specs.Picked.{changed}
use Rattle.world.proofs.LinksKept.{links_kept}
use Rattle.world.proofs.PairsKept.{number_of, pairs_kept}
use Rattle.world.proofs.links.Links.change.Goals as goal

abbrev person : Link → Option ℕ
person l = Some (unsigned_key l.person)

pub invariant_of-self-2 : goal.invariant_of-self-2
invariant_of-self-2 c =
    let es = c.self.inside.links.entries in
    let persons : c.replace.new.pairs ≡ by_person (changed nat_cmp c.args.key c.args.link es) =
    pairs_kept person es c.self.inside.persons c.replace.new.pairs c.args.key c.args.link c.person_of-old.result c.person_of-new.result c.in_ok-persons.persons c.len-sorted.ensures.sorted c.self.invariant.persons
    (c.person_of-old.ensures.key ∙ ap (number_of person) c.get.ensures) (c.person_of-new.ensures.key ∙ ap (number_of person) c.as_ref.ensures.value) c.in_ok-persons.ensures c.replace.ensures in
    let keyed : IfSome c.args.link (λ l. IsKeyed l.person) =
    subst (λ (o : Option Link). IfSome o (λ l. IsKeyed l.person)) c.as_ref.ensures.value c.person_of-new.ensures.keyed in
    links_kept es c.change_record.new.records.entries c.self.inside.persons c.replace.new.pairs c.args.key c.args.link keyed c.self.invariant c.in_ok-change_record.ensures.ok persons
