-- What stands between two expressions, and what is read behind it.
use Rattle.std.specs.Prelude.{ℕ, Bool, List, [], ◌∷◌, if◌then◌else◌}
use Rattle.spec_program.specs.Tokens.{Placed}
use Rattle.spec_program.specs.Spelling.{right_level}
use Rattle.spec_program.specs.ReadExpressions as by
use Rattle.spec_program.specs.ReadExpressions.{Found}
use Rattle.spec_program.specs.Moves.{is_tight}
use Rattle.spec_program.specs.Frames as f
use Rattle.spec_program.specs.Frames.{an_expression, Frames, push}
use Rattle.spec_reader.specs.Next.{Next, found, reads_expression}
use Rattle.moo_value.specs.Operators.{binary_of}
use Rattle.reader_begins.specs.declared.operators.Joint.{Joint}
use Rattle.reader_begins.specs.declared.operators.Joint.TheVariants as joint

abbrev pub joint_of : Joint → by.Joint
joint_of (joint.Operator o) = by.operator (binary_of o)
joint_of joint.And = by.and_joint
joint_of joint.Or = by.or_joint
joint_of joint.Question = by.question_joint
joint_of joint.Nothing = by.no_joint

abbrev pub joint_at : List Placed → by.Joint
joint_at [] = by.no_joint
joint_at (p ∷ ts) = by.joint p.token

abbrev pub tight_joint : ℕ → by.Joint → by.Joint
tight_joint k j = if is_tight k j then j else by.no_joint

-- the tokens behind it, if it binds as tightly as is wanted
abbrev pub left_behind : ℕ → List Placed → List Placed
left_behind k [] = []
left_behind k (p ∷ ts) = if is_tight k (by.joint p.token) then ts else p ∷ ts

abbrev pub joint_next : Bool → ℕ → Found → Frames an_expression → by.Joint → Next
joint_next b k a fs (by.operator op) = reads_expression b (right_level op) (push (f.right_of b k a (f.by_operator op)) fs)
joint_next b k a fs by.and_joint = reads_expression b 3 (push (f.right_of b k a f.by_both) fs)
joint_next b k a fs by.or_joint = reads_expression b 3 (push (f.right_of b k a f.by_either) fs)
joint_next b k a fs by.question_joint = reads_expression b 0 (push (f.chosen_first b k a) fs)
joint_next b k a fs by.no_joint = found fs a
