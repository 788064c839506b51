use Rattle.std.proofs.Common.{◌≡◌, ◌∙◌, ap, arith, map, filter, w32}
use Rattle.std.proofs.lemmas.Int.{to_z-of_z}
use Rattle.std.specs.Ordering.{int_eq}
use Rattle.spec_value.specs.Table.{Numbered}
use Rattle.spec_world.specs.World.{Link}
use Rattle.world.specs.LinkTable.{IsKeyed}
use Rattle.world.specs.Numbered.{numbered, unsigned_key}
use Rattle.world.specs.Paired.{keys_of}
use Rattle.world.proofs.Listed.{within}
use Rattle.world.proofs.PairsWalks.{known_of, known_within}
use Rattle.world.proofs.links.Links.connections.Goals as goal

pub gather_of-requires : goal.gather_of-requires
gather_of-requires c =
    known_within c.person_key.result 1048576 c.self.inside.links.entries c.self.inside.persons (within 1048576 1048576 c.self.inside.links.entries (omega arith) c.len-within.ensures.within) c.self.invariant

pub returns : goal.returns
returns c =
    let key : c.person_key.result ≡ unsigned_key c.args.person = rw (to_z-of_z w32 c.args.person c.ranges.person) at c.person_key.ensures.key in
    let keyed : IsKeyed c.args.person = rw (to_z-of_z w32 c.args.person c.ranges.person) at c.person_key.ensures.keyed in
    let listed =
    ap (λ m. map (λ e. e.0) (numbered (keys_of m c.self.inside.persons))) key ∙ known_of c.args.person c.self.inside.links.entries c.self.inside.persons keyed c.self.invariant
    ∙ ap (λ (ls : Numbered Link). map (λ e. e.0) (filter (λ e. int_eq (e.1).person c.args.person) ls)) c.self.view_is in
    c.in_ok-numbers.ensures ∙ listed
