-- Each change of objects keeps what they agree on.
use Rattle.spec_world.specs.ObjectLaws.{AttributesKeep, ContentKeeps, PropertyAddedKeeps, PropertyDeletedKeeps, CreatedKeeps, MovedKeeps, ReparentedKeeps, RecycledKeeps}
use Rattle.spec_world.proofs.Households.{household, objects_agree}
use Rattle.spec_world.proofs.ObjectChanges.{unchanged, changed_household, slot_household, moved_household}
use Rattle.spec_world.proofs.NewObjects.{created_household}
use Rattle.spec_world.proofs.PropertyChanges.{property_added_household}
use Rattle.spec_world.proofs.PropertyRemoval.{property_deleted_household}
use Rattle.spec_world.proofs.Reparenting.{reparented_household}
use Rattle.spec_world.proofs.Recycling.{recycled_household}

pub attributes_keep : AttributesKeep
attributes_keep w o f h same =
    objects_agree _
    (changed_household w o f (household w h) (λ x e. unchanged x (f x) (same x).parent (same x).children (same x).defines (same x).slots) (λ x. (same x).location) (λ x. (same x).contents))

pub content_keeps : ContentKeeps
content_keeps w o p s t h found full = objects_agree _ (slot_household w o p s t (household w h) found full)

pub property_added_keeps : PropertyAddedKeeps
property_added_keeps w o p s x is h full above below = objects_agree _ (property_added_household w o p s x is (household w h) full above below)

pub property_deleted_keeps : PropertyDeletedKeeps
property_deleted_keeps w o p x is h defined = objects_agree _ (property_deleted_household w o p x is (household w h) defined)

pub created_keeps : CreatedKeeps
created_keeps w p owner h room there = objects_agree _ (created_household w p owner (household w h) room there)

pub moved_keeps : MovedKeeps
moved_keeps w what place x h is there outside = objects_agree _ (moved_household w what place x (household w h) is there outside)

pub reparented_keeps : ReparentedKeeps
reparented_keeps w o p x is h there outside clear = objects_agree _ (reparented_household w o p x is (household w h) there outside clear)

pub recycled_keeps : RecycledKeeps
recycled_keeps w o h = objects_agree _ (recycled_household w o (household w h))
