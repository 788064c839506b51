-- What a world lists first.
use Rattle.std.proofs.Common.{◌≡◌, ℤ, Bool, true, false, [], ◌∷◌, Some, map, filter, refl, cond}
use Rattle.std.specs.Ordering.{int_eq}
use Rattle.spec_value.specs.Table.{Numbered}
use Rattle.spec_world.specs.World.{Task, Link}
use Rattle.spec_world.specs.Links.{connection_among, reads_on, reader_among}
use Rattle.spec_world.specs.SpecViewLaws.{first, ReaderIsFirst, ConnectionIsFirst}

reader_first : (ts : Numbered Task) (c : ℤ) → reader_among ts c ≡ first (map (λ e. e.0) (filter (λ e. reads_on c (e.1).waiting) ts))
reader_first [] c = refl
reader_first (e ∷ ts) c = go (reader_first ts c) (reads_on c (e.1).waiting)
  where
    go : reader_among ts c ≡ first (map (λ x. x.0) (filter (λ x. reads_on c (x.1).waiting) ts))
        → (b : Bool) → cond b (Some e.0) (reader_among ts c) ≡ first (map (λ x. x.0) (cond b (e ∷ filter (λ x. reads_on c (x.1).waiting) ts) (filter (λ x. reads_on c (x.1).waiting) ts)))
    go rest true = refl
    go rest false = rest

connection_first : (ks : Numbered Link) (o : ℤ) → connection_among ks o ≡ first (map (λ e. e.0) (filter (λ e. int_eq (e.1).person o) ks))
connection_first [] o = refl
connection_first (e ∷ ks) o = go (connection_first ks o) (int_eq (e.1).person o)
  where
    go : connection_among ks o ≡ first (map (λ x. x.0) (filter (λ x. int_eq (x.1).person o) ks))
        → (b : Bool) → cond b (Some e.0) (connection_among ks o) ≡ first (map (λ x. x.0) (cond b (e ∷ filter (λ x. int_eq (x.1).person o) ks) (filter (λ x. int_eq (x.1).person o) ks)))
    go rest true = refl
    go rest false = rest

pub reader_is_first : ReaderIsFirst
reader_is_first w c = reader_first w.tasks c

pub connection_is_first : ConnectionIsFirst
connection_is_first w o = connection_first w.links o
