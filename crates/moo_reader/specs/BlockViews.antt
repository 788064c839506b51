-- Statements that were read, without where they lie in memory.
use Rattle.std.specs.Prelude.{List, map, reverse, Option, Some, None, Vec}
use Rattle.std.specs.Global.{Global}
use Rattle.spec_program.specs.Tree.{Statement, Otherwise, no_else, else_do}
use Rattle.spec_program.specs.ReadPrograms as by
use Rattle.moo_tree.specs.StatementView.{program_of, branches_of, arms_of}
use Rattle.moo_reader.specs.declared.block.Stray.{Stray}
use Rattle.moo_reader.specs.declared.block.FoundStatement.{FoundStatement}
use Rattle.moo_reader.specs.declared.block.Block.{Block}
use Rattle.moo_reader.specs.declared.block.Branches.{Branches}
use Rattle.moo_reader.specs.declared.block.Arms.{Arms}

abbrev pub stray_of : Stray → by.Stray
stray_of s = record { line = s.line; name = s.name; cut_off = s.cut_off }

-- they are kept the last one first
abbrev pub strays_of : List Stray → List by.Stray
strays_of ss = reverse (map stray_of ss)

abbrev pub statement_found : FoundStatement → by.FoundStatement
statement_found s = record { tree = s.tree; nodes = s.nodes; strays = strays_of s.strays.items }

abbrev pub block_found : Block → by.FoundBlock
block_found p = record { tree = program_of (reverse p.reversed.items); nodes = p.nodes; strays = strays_of p.strays.items }

abbrev pub otherwise_of : Option (Vec Statement Global) → Otherwise
otherwise_of None = no_else
otherwise_of (Some p) = else_do (program_of p.items)

abbrev pub branches_found : Branches → by.FoundBranches
branches_found b = record {
  branches = branches_of (reverse b.reversed.items);
  otherwise = otherwise_of b.otherwise;
  nodes = b.nodes;
  strays = strays_of b.strays.items;
}

abbrev pub arms_found : Arms → by.FoundArms
arms_found a = record { tree = arms_of (reverse a.reversed.items); nodes = a.nodes; strays = strays_of a.strays.items }
