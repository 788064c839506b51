-- The operations of a scattering assignment have the same items and the same defaults, so that its instructions can share them.
use Rattle.std.specs.Prelude.{◌≡◌, ℕ, suc, ◌+◌, List, [], ◌∷◌, map, drop, reverse, take, length, Option, Some, None, option_map, Bool, true, nat_lt}
use Rattle.std.specs.List.{list_all}
use Rattle.std.specs.Arc.{arc_value}
use Rattle.spec_value.specs.Datum.{Text}
use Rattle.moo_code.specs.Instruction as code
use Rattle.moo_code.specs.Instruction.{Operation, scatter_on, placed}
use Rattle.moo_code.specs.Layout.{reception_size}
use Rattle.moo_program.specs.Drafting.{Draught, own_of, part_of, close_of, gap_of, opening_size}
use Rattle.moo_program.specs.Assembling.{Open, place_of, opened, innermost, outer}
use Rattle.moo_program.specs.Meaning.{slot_meant, part_meant}
use Rattle.moo_program.specs.Names.{known}
use Rattle.moo_program.specs.Walking.{walk_of}
use Rattle.moo_program.specs.Within.{slot_number, slots_in}
use Rattle.moo_program.specs.declared.assembly.Assembly.{Assembly}
use Rattle.moo_program.specs.declared.instruction.Scatter.{Scatter}
use Rattle.moo_program.specs.declared.instruction.Slot.{Slot}
use Rattle.moo_program.specs.declared.open.Open.{Open as UnderWay}
use Rattle.moo_program.specs.declared.tables.Tables.{Tables}

-- the items of a scattering assignment, where its defaults stand, and whether all of its variables are there
abbrev pub Plan : Type 0
Plan = List code.Slot × List (ℕ × ℕ) × Bool

-- that of an operation, with the places to which it leads
abbrev pub plan_in : Operation → List (ℕ × ℕ) → Option Plan
plan_in (code.scatter xs) ps = Some (xs, ps, true)
plan_in (scatter_on xs n) ps = Some (xs, drop 1 ps, true)
plan_in op ps = None

-- one that is known is that of an operation which has one
abbrev pub Agrees : Option Plan → Option Plan → Type 0
Agrees (Some p) (Some q) = p ≡ q
Agrees p q = Unit {0}

-- with that of an operation
abbrev pub learned : Option Plan → Option Plan → Option Plan
learned p None = p
learned p (Some q) = Some q

abbrev pub first_plan : List (Option Plan) → Option Plan
first_plan [] = None
first_plan (p ∷ ps) = p

abbrev pub outer_plans : List (Option Plan) → List (Option Plan)
outer_plans [] = []
outer_plans (p ∷ ps) = ps

-- in each construct all operations have the plan that is known of it, or of the first one, as the constructs are walked through
abbrev pub Steady : List Open → List (Option Plan) → ℕ → List Draught → Type 0
Steady cs ps b [] = Unit {0}
Steady cs ps b (own_of op ns ∷ ds) =
    Agrees (first_plan ps) (plan_in op (placed (place_of (innermost cs)) ns))
    × Steady cs (learned (first_plan ps) (plan_in op (placed (place_of (innermost cs)) ns)) ∷ outer_plans ps) (suc b) ds
Steady cs ps b (part_of o n m ∷ ds) = Steady (opened (b + opening_size o) (take n ds) m ∷ cs) (None ∷ ps) (b + opening_size o) ds
Steady cs ps b (close_of r c ∷ ds) = Steady (outer cs) (outer_plans ps) (b + reception_size r) ds
Steady cs ps b (gap_of ∷ ds) = Steady cs ps b ds

-- ---- while code is assembled

abbrev pub are_in : ℕ → List Slot → Bool
are_in n slots = list_all (λ i. nat_lt (slot_number i) n) slots

abbrev pub plan_meant : List Text → Scatter → Plan
plan_meant names s = (map (slot_meant names) s.items.items, map part_meant s.defaults.items, are_in (length names) s.items.items)

-- what is known of a construct
abbrev pub plan_of : List Text → UnderWay → Option Plan
plan_of names o = option_map (λ s. plan_meant names (arc_value s)) o.scatter

-- of the constructs under way, the innermost first
abbrev pub plans_of : Tables → Assembly → List (Option Plan)
plans_of t a = plan_of (known t.names) a.here ∷ map (plan_of (known t.names)) (reverse a.around.items)

-- so it goes on with these items
abbrev pub IsSteady : Tables → Assembly → List Draught → Type 0
IsSteady t a ds = Steady (walk_of t a).opens (plans_of t a) (walk_of t a).place ds

-- all variables of the code are there
abbrev pub all_in : Tables → Assembly → Bool
all_in t a = list_all (slots_in (length (known t.names))) a.assembled.code.items
