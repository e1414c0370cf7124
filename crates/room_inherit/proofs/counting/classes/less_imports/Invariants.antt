use Rattle.std.proofs.Common.{◌≡◌, ◌-◌, length, drop}
use Rattle.room_ast.specs.Tokens.{each, import_tokens}
use Rattle.room_inherit.proofs.counting.classes.less_imports.Given as goal

-- what is left once the rest is taken away
abbrev pub invariant-loop-import : goal.invariant-loop-import
invariant-loop-import l = l.left - length (each import_tokens (drop l.import-index l.imports)) ≡ l.fn.left - length (each import_tokens l.imports)
