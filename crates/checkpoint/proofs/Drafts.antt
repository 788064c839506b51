-- A world's lines behind each of their parts, and what a draft has of the world there.
use Rattle.std.proofs.Common.{◌≡◌, ◌<◌, ◌^◌, List, [], ◌∷◌, ◌++◌, length, subst, ◌∙◌, codes}
use Rattle.spec_value.specs.Datum.{Text}
use Rattle.spec_world.specs.World.{World}
use Rattle.spec_world.specs.Checkpoint.{counted, link_lines, each_object, each_task, world_lines, checkpoint_text}
use Rattle.checkpoint_lines.specs.Rows.{Left}
use Rattle.checkpoint_lines.specs.declared.lines.Lines.{Lines}

abbrev pub behind_objects : World → List Text
behind_objects w = counted (codes "tasks") (length w.tasks) ∷ (each_task w.tasks ++ codes "end" ∷ [])

abbrev pub behind_links : World → List Text
behind_links w = counted (codes "objects") (length w.objects) ∷ (each_object w w.objects ++ behind_objects w)

abbrev pub behind_front : World → List Text
behind_front w = counted (codes "links") (length w.links) ∷ (link_lines w.links ++ behind_links w)

pub drafted : (w d0 d1 d2 d3 d4 : World) → d1 ≡ record d0 { greatest = w.greatest; next = w.next; ending = w.ending } → d2 ≡ record d1 { links = w.links } → d3 ≡ record d2 { objects = w.objects }
    → d4 ≡ record d3 { tasks = w.tasks } → d4 ≡ w
drafted w d0 d1 d2 d3 d4 front links objects tasks =
    tasks
    ∙ (λ i. record (objects i) { tasks = w.tasks })
    ∙ (λ i. record (links i) { objects = w.objects; tasks = w.tasks })
    ∙ (λ i. record (front i) { links = w.links; objects = w.objects; tasks = w.tasks })

-- ---- at the beginning

pub all_left : (ls : Lines) (text : Text) (w : World) → ls.left.now ≡ text → text ≡ checkpoint_text w → length text < 2 ^ 63 → Left ls (world_lines w)
unfolding checkpoint_text
all_left ls text w new is small = (new ∙ is, subst (λ t. length t < 2 ^ 63) is small)
