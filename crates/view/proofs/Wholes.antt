-- An object is its header, its lists, its slots and its verbs.
use Rattle.std.proofs.Common.{◌≡◌}
use Rattle.spec_world.specs.World.{Object}

pub same_objects : (a b : Object) → a.header ≡ b.header → a.children ≡ b.children → a.contents ≡ b.contents → a.defines ≡ b.defines → a.slots ≡ b.slots → a.verbs ≡ b.verbs → a ≡ b
same_objects a b header children contents defines slots verbs =
    λ i. record { header = header i; children = children i; contents = contents i; defines = defines i; slots = slots i; verbs = verbs i }
