-- Nodes by their places.
use Rattle.std.proofs.Common.{◌≡◌, true, false, if◌then◌else◌, ℕ, suc, ◌+◌, ◌-◌, ◌<◌, ◌≤◌, List, [], ◌∷◌, ◌++◌, length, take, drop, get_or, sym, ap, ◌∙◌, append_assoc, add-one, arith}
use Rattle.std.proofs.Math.Seq.{drop-cons}
use Rattle.std.proofs.Math.ListN.{drop_of_length-le}
use Rattle.std.proofs.lemmas.List.{append-nil, take_more, take_all}
use Rattle.spec_program.specs.Reading.{Node}
use Rattle.spec_program.specs.KeptNodes.{matters, kept_behind}

pub first_left : (nodes : List Node) (i : ℕ) (n : Node) → i < length nodes → n ≡ get_or nodes i n → drop i nodes ≡ n ∷ drop (i + 1) nodes
first_left nodes i n h e = drop-cons nodes i n h ∙ ap (λ x. x ∷ drop (suc i) nodes) (sym e) ∙ ap (λ j. n ∷ drop j nodes) (sym (add-one i))

-- ---- one after another

pub one_behind : (all others : List Node) (i : ℕ) (n : Node) → i < length others → n ≡ get_or others i n
    → (all ++ n ∷ []) ++ drop (i + 1) others ≡ all ++ drop i others
one_behind all others i n h e = append_assoc all (n ∷ []) (drop (i + 1) others) ∙ ap (λ x. all ++ x) (sym (first_left others i n h e))

pub all_behind : (all others : List Node) (i : ℕ) → length others ≤ i → all ≡ all ++ drop i others
all_behind all others i h = sym (ap (λ x. all ++ x) (drop_of_length-le others h) ∙ append-nil all)

pub one_before : (nodes all : List Node) (i : ℕ) (n : Node) → 0 < i → i ≤ length nodes → n ≡ get_or nodes (i - 1) n
    → take (i - 1) nodes ++ n ∷ all ≡ take i nodes ++ all
one_before nodes all i n p h e =
    let e1 : (i - 1) + 1 ≡ i = omega (arith, p) in
    sym (append_assoc (take (i - 1) nodes) (n ∷ []) all)
    ∙ ap (λ x. (take (i - 1) nodes ++ x ∷ []) ++ all) e
    ∙ ap (λ x. x ++ all) (sym (take_more nodes (i - 1) n (omega (arith, p, h))))
    ∙ ap (λ j. take j nodes ++ all) e1

pub all_before : (nodes all : List Node) → take (length nodes) nodes ++ all ≡ nodes ++ all
all_before nodes all = ap (λ x. x ++ all) (take_all (length nodes) nodes (omega arith))

pub none_before : (nodes all : List Node) (i : ℕ) → i ≡ 0 → all ≡ take i nodes ++ all
none_before nodes all i h = ap (λ j. take j nodes ++ all) (sym h)

-- ---- which are kept

pub one_kept : (few nodes : List Node) (i d : ℕ) (n : Node) → i < length nodes → n ≡ get_or nodes i n → true ≡ matters d n
    → (few ++ n ∷ []) ++ kept_behind n.depth (drop (i + 1) nodes) ≡ few ++ kept_behind d (drop i nodes)
one_kept few nodes i d n h e m =
    let rest = drop (i + 1) nodes in
    append_assoc few (n ∷ []) (kept_behind n.depth rest)
    ∙ ap (λ c. few ++ (if c then n ∷ kept_behind n.depth rest else kept_behind d rest)) m
    ∙ ap (λ x. few ++ kept_behind d x) (sym (first_left nodes i n h e))

pub one_left_out : (few nodes : List Node) (i d : ℕ) (n : Node) → i < length nodes → n ≡ get_or nodes i n → false ≡ matters d n
    → few ++ kept_behind d (drop (i + 1) nodes) ≡ few ++ kept_behind d (drop i nodes)
one_left_out few nodes i d n h e m =
    let rest = drop (i + 1) nodes in
    ap (λ c. few ++ (if c then n ∷ kept_behind n.depth rest else kept_behind d rest)) m
    ∙ ap (λ x. few ++ kept_behind d x) (sym (first_left nodes i n h e))

pub none_kept : (few nodes : List Node) (i d : ℕ) → length nodes ≤ i → few ++ kept_behind d (drop i nodes) ≡ few
none_kept few nodes i d h = ap (λ x. few ++ kept_behind d x) (drop_of_length-le nodes h) ∙ append-nil few
