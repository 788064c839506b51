-- Nodes whose depths are told from a base.
use Rattle.std.proofs.Common.{◌≡◌, ℕ, zero, suc, ◌+◌, ◌-◌, ◌<◌, ◌≤◌, List, [], ◌∷◌, ◌++◌, length, map, get_or, refl, sym, ap, subst, ◌∙◌, arith}
use Rattle.std.proofs.lemmas.List.{map-append}
use Rattle.spec_program.specs.Reading.{deeper, under}
use Rattle.moo_reader.specs.declared.node.Node.{Node}
use Rattle.moo_reader.specs.declared.node.Mark.{Mark}
use Rattle.moo_reader.specs.Nodes.{node_of}
use Rattle.moo_reader.specs.Marks.{node_at, nodes_at, StartWithin}

-- ---- one more around them all

pub within_more : (b : ℕ) (ms : List Mark) → StartWithin b ms → StartWithin (b + 1) ms
within_more b [] h = tt
within_more b (m ∷ ms) h = let i = h.0 in (omega (arith, i), within_more b ms h.1)

all_deeper : (b : ℕ) (ms : List Mark) → StartWithin b ms → nodes_at (b + 1) ms ≡ map deeper (nodes_at b ms)
all_deeper b [] h = refl
all_deeper b (m ∷ ms) h =
    let i = h.0 in
    let e : (b + 1) - m.start ≡ suc (b - m.start) = omega (arith, i) in
    ap (λ d. record { depth = d; line = m.line } ∷ nodes_at (b + 1) ms) e
    ∙ ap (λ ns. deeper (node_at b m) ∷ ns) (all_deeper b ms h.1)

begun_around : (b line : ℕ) (ms : List Mark) → StartWithin b ms
    → nodes_at (b + 1) (record { start = b; line = line } ∷ ms) ≡ under line (nodes_at b ms)
begun_around b line ms h =
    let e : (b + 1) - b ≡ 1 = omega arith in
    ap (λ d. record { depth = d; line = line } ∷ nodes_at (b + 1) ms) e ∙ ap (λ ns. record { depth = 1; line = line } ∷ ns) (all_deeper b ms h)

pub one_around : (b c line : ℕ) (ms new : List Mark) → StartWithin b ms → c ≡ b + 1 → new ≡ record { start = b; line = line } ∷ ms
    → nodes_at c new ≡ under line (nodes_at b ms)
one_around b c line ms new h e i = ap (λ d. nodes_at d new) e ∙ ap (nodes_at (b + 1)) i ∙ begun_around b line ms h

pub around_within : (b c line : ℕ) (ms new : List Mark) → StartWithin b ms → c ≡ b + 1 → new ≡ record { start = b; line = line } ∷ ms
    → StartWithin c new
around_within b c line ms new h e i =
    subst (λ d. StartWithin d new) (sym e) (subst (StartWithin (b + 1)) (sym i) (omega arith, within_more b ms h))

-- ---- one behind the others, or before them

pub last_within : (b : ℕ) (ms : List Mark) (m : Mark) → StartWithin b ms → m.start ≤ b → StartWithin b (ms ++ m ∷ [])
last_within b [] m h i = (i, tt)
last_within b (x ∷ ms) m h i = (h.0, last_within b ms m h.1 i)

pub one_last : (b : ℕ) (ms : List Mark) (n : Node) → n.depth ≤ b
    → nodes_at b (ms ++ record { start = b - n.depth; line = n.line } ∷ []) ≡ nodes_at b ms ++ node_of n ∷ []
one_last b ms n h =
    let e : b - (b - n.depth) ≡ n.depth = omega (arith, h) in
    map-append (node_at b) ms (record { start = b - n.depth; line = n.line } ∷ [])
    ∙ ap (λ d. nodes_at b ms ++ record { depth = d; line = n.line } ∷ []) e

pub one_first : (b : ℕ) (ms : List Mark) (n : Node) → n.depth ≤ b
    → nodes_at b (record { start = b - n.depth; line = n.line } ∷ ms) ≡ node_of n ∷ nodes_at b ms
one_first b ms n h =
    let e : b - (b - n.depth) ≡ n.depth = omega (arith, h) in
    ap (λ d. record { depth = d; line = n.line } ∷ nodes_at b ms) e

-- ---- the one at a place

pub place_within : (b : ℕ) (ms : List Mark) (i : ℕ) (m : Mark) → StartWithin b ms → i < length ms → m ≡ get_or ms i m → m.start ≤ b
place_within b [] i m h l e = absurd (omega (arith, l))
place_within b (x ∷ ms) zero m h l e = let i = h.0 in let s = ap (λ y. y.start) e in omega (arith, i, s)
place_within b (x ∷ ms) (suc i) m h l e = place_within b ms i m h.1 (omega (arith, l)) e

pub node_at_place : (b : ℕ) (ms : List Mark) (i : ℕ) (m : Mark) → i < length ms → m ≡ get_or ms i m
    → node_at b m ≡ get_or (nodes_at b ms) i (node_at b m)
node_at_place b [] i m l e = absurd (omega (arith, l))
node_at_place b (x ∷ ms) zero m l e = ap (node_at b) e
node_at_place b (x ∷ ms) (suc i) m l e = node_at_place b ms i m (omega (arith, l)) e
