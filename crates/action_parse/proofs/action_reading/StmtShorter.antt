-- What is read of statements takes something.
use Rattle.std.proofs.Common.{◌≡◌, ℕ, zero, suc, ◌<◌, ◌-◌, List, [], ◌∷◌, ◌++◌, length, Some, None, refl, ap, length-append, arith}
use Rattle.room_lexer.specs.declared.token.Mark.TheVariants as marks
use Rattle.room_tokens.specs.action_tokens.Values.{Value, AMark}
use Rattle.action_program.specs.Named.{ExprTree, StmtTree, empty, assign, choose, repeat, send, defer, recall, recall_all, frame, import_at, register, withdraw, Stmts, no_branch, a_branch}
use Rattle.action_parse.specs.action_reading.Tokens.{path_tokens, expr_tokens, stmt_tokens}
use Rattle.action_parse.specs.action_reading.ExprReading.{expression}
use Rattle.action_parse.specs.action_reading.StmtReading.{argument_at, else_if_at, block_at, block_below, statement}
use Rattle.action_parse.specs.action_reading.Written.{IsStmt}
use Rattle.action_parse.proofs.action_reading.ExprSound.{some_path, behind_shorter}
use Rattle.action_parse.proofs.action_reading.StmtAlways.{statement_always}
use Rattle.action_parse.proofs.action_reading.StmtSound.{argument_sound, else_if_tokens, else_if_sound, expression_sound, below_sound, statement_sound}

pub argument_shorter : (depth : ℕ) (ts : List Value) (e : ExprTree) (us : List Value) → argument_at (expression depth) ts ≡ Some (e, us) → length us < length ts
argument_shorter depth ts e us h = behind_shorter (AMark marks.Comma ∷ expr_tokens e) ts us ((argument_sound (expression_sound depth)).takes ts (e, us) h) (omega arith)

some_else_if : (b : ExprTree × Stmts) → 0 < length (else_if_tokens b)
unfolding else_if_tokens
some_else_if b = omega arith

pub else_if_shorter : (depth : ℕ) (ts : List Value) (b : ExprTree × Stmts) (us : List Value) → else_if_at (expression depth) (block_below depth) ts ≡ Some (b, us) → length us < length ts
else_if_shorter depth ts b us h = behind_shorter (else_if_tokens b) ts us ((else_if_sound (expression_sound depth) (below_sound depth)).takes ts (b, us) h) (some_else_if b)

pub some_stmt : (s : StmtTree) → IsStmt s → 0 < length (stmt_tokens s)
some_stmt empty is = omega arith
some_stmt (assign path e) is = omega (arith, some_path path is.0, length-append (path_tokens path) (AMark marks.Equals ∷ (expr_tokens e ++ (AMark marks.Semicolon ∷ []))))
some_stmt (choose no_branch otherwise) is = absurd is.0
some_stmt (choose (a_branch e body rest) otherwise) is = omega arith
some_stmt (repeat n body) is = omega arith
some_stmt (send s) is = omega arith
some_stmt defer is = omega arith
some_stmt recall is = omega arith
some_stmt recall_all is = omega arith
some_stmt (frame verb reference index) is = omega arith
some_stmt (import_at reference index id) is = omega arith
some_stmt (register port service) is = omega arith
some_stmt (withdraw port) is = omega arith

pub statement_shorter : (depth : ℕ) (ts : List Value) (s : StmtTree) (us : List Value) → statement depth ts ≡ Some (s, us) → length us < length ts
statement_shorter depth ts s us h = behind_shorter (stmt_tokens s) ts us ((statement_sound depth).takes ts (s, us) h) (some_stmt s ((statement_always depth).holds ts (s, us) h).0)

-- a block stands where one may nest
pub block_is : (depth : ℕ) (ts : List Value) → 0 < depth → block_below depth ts ≡ block_at (statement (depth - 1)) ts
unfolding block_below
block_is zero ts some = absurd (omega arith)
block_is (suc depth) ts some = let less : suc depth - 1 ≡ depth = omega arith in rw less refl

pub no_block : (ts : List Value) → block_below 0 ts ≡ None
unfolding block_below
no_block ts = refl
