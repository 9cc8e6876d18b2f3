-- The blocks of a whole program are its code.
use Rattle.std.proofs.Common.{◌≡◌, refl, sym, ap, ◌∙◌, ℕ, zero, suc, ◌+◌, arith, List, [], ◌∷◌, ◌++◌, length, append_assoc, append-nil}
use Rattle.std.specs.Prelude.{replicate}
use Rattle.core_syntax.specs.Lists.{each}
use Rattle.machine_table.specs.declared.code.Block.{Block}
use Rattle.erasure.specs.Erased.{ErasedTerm}
use Rattle.erasure.specs.Programs.{ErasedProgram}
use Rattle.lowering.specs.Lower.{body_at, opens, bodies_in, code_of, body_code, def_bodies, behind_defs, inner_bodies, blocks_of}
use Rattle.lowering.specs.Outputs.{Output, empty_block, set_block, filled, with_defs, begun, whole}
use Rattle.erasure.specs.declared.term.ErExpr.{ErExpr}
use Rattle.erasure.specs.declared.program.ErProgram.{ErProgram}
use Rattle.erasure.specs.Refine.{erased_of}
use Rattle.erasure.specs.RefineProgram.{erased_program_of}
use Rattle.lowering.proofs.Placed.{opens_are}
use Rattle.lowering.proofs.trees.Outputs.{many, each_many, each_join, set_behind}

-- blocks alone, with none at work
abbrev of_blocks : List Block → Output
of_blocks bs = record { steps = []; blocks = bs }

-- a reserved block is filled, with bodies behind the others
filled_at : (done after : List Block) (t : ErasedTerm) (k : ℕ) → k ≡ length (done ++ empty_block ∷ after)
    → filled (length done) t (of_blocks (done ++ empty_block ∷ after)) ≡ of_blocks (done ++ body_code (body_at k t) ∷ (after ++ each body_code (bodies_in k t)))
filled_at done after t k n =
    let all = done ++ empty_block ∷ after in
    let joined : all ++ each body_code (bodies_in k t) ≡ done ++ empty_block ∷ (after ++ each body_code (bodies_in k t)) = append_assoc done (empty_block ∷ after) (each body_code (bodies_in k t)) in
    ap of_blocks
    (ap (λ m. set_block (length done) (code_of m t) (all ++ each body_code (bodies_in m t))) (sym n)
    ∙ ap (set_block (length done) (code_of k t)) joined
    ∙ set_behind done empty_block (after ++ each body_code (bodies_in k t)) (body_code (body_at k t)))

-- the definitions that are left, behind those that are done
defs_are : (ts : List ErasedTerm) (done after : List Block) (i k : ℕ) → i ≡ length done → k ≡ length done + length ts + length after
    → with_defs i ts (of_blocks (done ++ (replicate (length ts) empty_block ++ after)))
    ≡ of_blocks (done ++ (each body_code (def_bodies k ts) ++ (after ++ each body_code (inner_bodies (def_bodies k ts)))))
defs_are [] done after i k p n = ap (λ xs. of_blocks (done ++ xs)) (sym (append-nil after))
defs_are (t ∷ ts) done after i k p n =
    let left = replicate (length ts) empty_block ++ after in
    let more = each body_code (bodies_in k t) in
    let block = body_code (body_at k t) in
    let size : k ≡ length (done ++ empty_block ∷ left) =
    n ∙ (let a : length (done ++ empty_block ∷ left) ≡ length done + suc (length left) = many done (empty_block ∷ left) in
    let b : length left ≡ length (replicate (length ts) empty_block) + length after = many (replicate (length ts) empty_block) after in
    let c : length (replicate (length ts) empty_block) ≡ length ts = replicated (length ts) in
    let s : length done + suc (length ts) + length after ≡ length (done ++ empty_block ∷ left) = omega (arith, a, b, c) in s) in
    let one : filled i t (of_blocks (done ++ empty_block ∷ left)) ≡ of_blocks (done ++ block ∷ (left ++ more)) = ap (λ j. filled j t (of_blocks (done ++ empty_block ∷ left))) p ∙ filled_at done left t k size in
    let placed : done ++ block ∷ (left ++ more) ≡ (done ++ block ∷ []) ++ (replicate (length ts) empty_block ++ (after ++ more)) =
    ap (λ xs. done ++ block ∷ xs) (append_assoc (replicate (length ts) empty_block) after more) ∙ sym (append_assoc done (block ∷ []) (replicate (length ts) empty_block ++ (after ++ more))) in
    let next : suc i ≡ length (done ++ block ∷ []) = (let a : length (done ++ block ∷ []) ≡ length done + 1 = many done (block ∷ []) in omega (arith, a, p)) in
    let number : k + opens t ≡ length (done ++ block ∷ []) + length ts + length (after ++ more) =
    (let a : length (done ++ block ∷ []) ≡ length done + 1 = many done (block ∷ []) in
    let b : length (after ++ more) ≡ length after + length more = many after more in
    let c : length more ≡ opens t = each_many body_code (bodies_in k t) ∙ opens_are k t in
    omega (arith, a, b, c, n)) in
    let rest = def_bodies (k + opens t) ts in
    ap (with_defs (suc i) ts) (one ∙ ap of_blocks placed)
    ∙ defs_are ts (done ++ block ∷ []) (after ++ more) (suc i) (k + opens t) next number
    ∙ ap of_blocks
    (append_assoc done (block ∷ []) (each body_code rest ++ ((after ++ more) ++ each body_code (inner_bodies rest)))
    ∙ ap (λ xs. done ++ block ∷ (each body_code rest ++ xs))
    (append_assoc after more (each body_code (inner_bodies rest)) ∙ ap (λ xs. after ++ xs) (sym (each_join body_code (bodies_in k t) (inner_bodies rest)))))
  where
    replicated : (m : ℕ) → length (replicate m empty_block) ≡ m
    replicated zero = refl
    replicated (suc m) = ap suc (replicated m)

-- the number of the first block behind those of the definitions' forms
pub defs_number : (ts : List ErasedTerm) (k : ℕ) → behind_defs k ts ≡ k + length (inner_bodies (def_bodies k ts))
defs_number [] k = omega arith
defs_number (t ∷ ts) k =
    let rest = inner_bodies (def_bodies (k + opens t) ts) in
    let a : behind_defs (k + opens t) ts ≡ k + opens t + length rest = defs_number ts (k + opens t) in
    let b : length (bodies_in k t ++ rest) ≡ length (bodies_in k t) + length rest = many (bodies_in k t) rest in
    let c : length (bodies_in k t) ≡ opens t = opens_are k t in
    omega (arith, a, b, c)

-- a body for each definition
pub defs_count : (ts : List ErasedTerm) (k : ℕ) → length (def_bodies k ts) ≡ length ts
defs_count [] k = refl
defs_count (t ∷ ts) k = ap suc (defs_count ts (k + opens t))

pub whole_is : (p : ErasedProgram) → (whole p).blocks ≡ blocks_of p
whole_is p =
    let first = suc (length p.defs) in
    let defs = def_bodies first p.defs in
    let after = each body_code defs ++ each body_code (inner_bodies defs) in
    let main = behind_defs first p.defs in
    let none : replicate (length p.defs) empty_block ≡ replicate (length p.defs) empty_block ++ [] = sym (append-nil (replicate (length p.defs) empty_block)) in
    let count : suc (length p.defs) ≡ 1 + length p.defs + 0 = omega arith in
    let done : with_defs 1 p.defs (begun first) ≡ of_blocks (empty_block ∷ after) =
    ap (λ xs. with_defs 1 p.defs (of_blocks (empty_block ∷ xs))) none ∙ defs_are p.defs (empty_block ∷ []) [] 1 first refl count in
    let number : main ≡ length (empty_block ∷ after) =
    (let a : main ≡ first + length (inner_bodies defs) = defs_number p.defs first in
    let b : length after ≡ length (each body_code defs) + length (each body_code (inner_bodies defs)) = many (each body_code defs) (each body_code (inner_bodies defs)) in
    let c : length (each body_code defs) ≡ length p.defs = each_many body_code defs ∙ defs_count p.defs first in
    let d : length (each body_code (inner_bodies defs)) ≡ length (inner_bodies defs) = each_many body_code (inner_bodies defs) in
    omega (arith, a, b, c, d)) in
    let last : bodies_in main p.body ++ [] ≡ bodies_in main p.body = append-nil (bodies_in main p.body) in
    let joined : each body_code (defs ++ inner_bodies defs ++ (bodies_in main p.body ++ [])) ≡ after ++ each body_code (bodies_in main p.body) =
    each_join body_code (defs ++ inner_bodies defs) (bodies_in main p.body ++ [])
    ∙ ap (λ xs. xs ++ each body_code (bodies_in main p.body ++ [])) (each_join body_code defs (inner_bodies defs)) ∙ ap (λ bs. after ++ each body_code bs) last in
    ap (λ o. (filled 0 p.body o).blocks) done ∙ ap (λ o. o.blocks) (filled_at [] after p.body main number)
    ∙ ap (λ xs. body_code (body_at main p.body) ∷ xs) (sym joined)

-- the same of a tree: its definitions and its body are lowered one after another
pub whole_tree : (p : ErProgram) (defs : List ErExpr) (n : ℕ) (a b d : Output) → defs ≡ p.defs → n ≡ length p.defs
    → a ≡ begun (suc n) → b ≡ with_defs 1 (each erased_of defs) a → d ≡ filled 0 (erased_of p.body) b → d.blocks ≡ blocks_of (erased_program_of p)
whole_tree p defs n a b d same count first second third =
    let start : a ≡ begun (suc (length (each erased_of p.defs))) = first ∙ ap (λ m. begun (suc m)) (count ∙ sym (each_many erased_of p.defs)) in
    ap (λ o. o.blocks)
    (third ∙ ap (filled 0 (erased_of p.body)) (second ∙ ap (λ xs. with_defs 1 (each erased_of xs) a) same ∙ ap (with_defs 1 (each erased_of p.defs)) start))
    ∙ whole_is (erased_program_of p)
