-- Trees with their code: a program, and behind it the bodies of its forks, and of the forks in them.
use Rattle.std.specs.Prelude.{◌≡◌, ◌<◌, ◌+◌, ℕ, List, [], ◌∷◌, map, length, get_or, slice_get, Some, true}
use Rattle.std.specs.List.{list_all}
use Rattle.spec_program.specs.Tree.{Program, the_end}
use Rattle.moo_code.specs.Layout.{code_of, handlers_of}
use Rattle.moo_code.specs.Names.{names_of}
use Rattle.moo_program.specs.Gathering.{forks_in}
use Rattle.moo_program.specs.Meaning.{meant, handler_meant}
use Rattle.moo_program.specs.Names.{known}
use Rattle.moo_program.specs.Outline.{outline_of}
use Rattle.moo_program.specs.Within.{slots_in, handler_slots_in}
use Rattle.moo_program.specs.declared.compile.Code.{Code}
use Rattle.moo_program.specs.declared.compiled.Compiled.{Compiled}
use Rattle.moo_program.specs.declared.compiled.Coded.{Coded}

-- the code of a program
pub record IsCode (p : Program) (c : Code) : Type 0 where
  pub names : known c.names.items ≡ names_of p
  pub code : map (meant (names_of p) (forks_in (code_of p))) c.assembled.code.items ≡ code_of p
  pub handlers : map (handler_meant (names_of p)) c.assembled.handlers.items ≡ handlers_of p
  pub slots : list_all (slots_in (length (names_of p))) c.assembled.code.items ≡ true
  pub handled : list_all (handler_slots_in (length (names_of p))) c.assembled.handlers.items ≡ true
  pub outline : c.outline.items ≡ outline_of p

-- the bodies of its forks stand among these
abbrev pub HasBodies : List Program → Program → Coded → Type 0
HasBodies ts p c = (k : ℕ) (q : Program) → slice_get (forks_in (code_of p)) k ≡ Some q → slice_get ts (c.bodies + k) ≡ Some q

pub record IsCoded (ts : List Program) (p : Program) (c : Coded) : Type 0 where
  pub code : IsCode p c.code
  pub forks : c.forks ≡ length (forks_in (code_of p))
  pub bodies : HasBodies ts p c

-- the first of some trees have these codes
abbrev pub AllCoded : List Program → List Program → List Coded → Type 0
AllCoded ts ps [] = Unit {0}
AllCoded ts [] (c ∷ cs) = ⊥
AllCoded ts (p ∷ ps) (c ∷ cs) = IsCoded ts p c × AllCoded ts ps cs

abbrev pub AreCoded : Compiled → Type 0
AreCoded c = AllCoded c.trees.items c.trees.items c.codes.items

-- each tree has its code
pub record IsWhole (c : Compiled) : Type 0 where
  pub coded : AreCoded c
  pub all : length c.codes.items ≡ length c.trees.items
  pub some : 0 < length c.trees.items

abbrev pub tree_at : Compiled → ℕ → Program
tree_at c n = get_or c.trees.items n the_end

pub record IsProgram (c : Compiled) (n : ℕ) : Type 0 where
  pub whole : IsWhole c
  pub inside : n < length c.trees.items
