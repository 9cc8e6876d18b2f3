-- The blocks of a writable program are those of a code that has a text.
use Rattle.std.proofs.Common.{◌≡◌, subst, ℕ, suc, ◌+◌, ◌*◌, ◌≤◌, ◌<◌, ◌^◌, arith, List, [], ◌∷◌, ◌++◌, length}
use Rattle.core_syntax.specs.Lists.{each, Each}
use Rattle.machine_table.specs.CodeBounds.{IsInstr, IsBlock, AreBlocks}
use Rattle.erasure.specs.Erased.{ErasedTerm}
use Rattle.erasure.specs.Programs.{ErasedProgram}
use Rattle.lowering.specs.Lower.{Body, opens, bodies_in, body_code, code_of, def_bodies, behind_defs, inner_bodies, bodies_of, blocks_of}
use Rattle.erasure.specs.TermNodes.{term_nodes, defs_nodes, program_nodes}
use Rattle.lowering.proofs.texts.Writable.{IsWritable, IsProgramWritable}
use Rattle.lowering.proofs.counts.ProgramBound.{each_join, a_node}
use Rattle.lowering.proofs.Placed.{opens_are, length_join}
use Rattle.lowering.proofs.trees.Outputs.{each_many}
use Rattle.lowering.proofs.trees.Programs.{defs_number, defs_count}
use Rattle.lowering.proofs.machine.Continued.{code_alone}
use Rattle.lowering.proofs.texts.Sizes.{opens_few, code_between}
use Rattle.lowering.proofs.texts.Written.{Ready, written, ready_in}
use Rattle.lowering.proofs.texts.CodeIndices.{all_of}

module _ (D n : ℕ) (room : D < n) (N : ℕ) (small : N < 2 ^ 30) where
  -- a body that is ready is a block
  is_block : (b : Body) → Ready D n room N b → IsBlock n (body_code b)
  is_block b h =
      let alone = code_alone b.first b.term in
      let size = code_between b.first b.term [] in
      let least : 1 + 0 ≤ length (code_of b.first b.term) = subst (λ is. 1 + 0 ≤ length is) alone size.0 in
      let most : length (code_of b.first b.term) ≤ 2 * term_nodes b.term + 0 = subst (λ is. length is ≤ 2 * term_nodes b.term + 0) alone size.1 in
      let few : term_nodes b.term ≤ N = h.2 in
      record {
        some = omega (arith, least);
        few = omega (arith, most, few, small);
        each = all_of (IsInstr n) (code_of b.first b.term) (subst (Each (IsInstr n)) alone (written D n room b.first b.term [] h.0 h.1 tt));
      }

  are_blocks : (bs : List Body) → Each (Ready D n room N) bs → Each (IsBlock n) (each body_code bs)
  are_blocks [] h = tt
  are_blocks (b ∷ bs) h = (is_block b h.0, are_blocks bs h.1)

  -- definitions, and the bodies of their forms
  ready_defs : (k : ℕ) (ts : List ErasedTerm) → Each (IsWritable D) ts → behind_defs k ts ≤ n → defs_nodes ts ≤ N
      → Each (Ready D n room N) (def_bodies k ts) × Each (Ready D n room N) (inner_bodies (def_bodies k ts))
  ready_defs k [] w le few = (tt, tt)
  ready_defs k (t ∷ ts) w le few =
      let next = k + opens t in
      let behind : behind_defs next ts ≡ next + length (inner_bodies (def_bodies next ts)) = defs_number ts next in
      let first : k + opens t ≤ n = omega (arith, behind, le) in
      let nodes : term_nodes t ≤ N = omega (arith, few) in
      let rest = ready_defs next ts w.1 le (omega (arith, few)) in
      (((w.0, first, nodes), rest.0), each_join (Ready D n room N) (bodies_in k t) (inner_bodies (def_bodies next ts)) (ready_in D n room N k t w.0 first nodes) rest.1)

-- as many blocks as main's body ends with
block_count : (p : ErasedProgram) → length (blocks_of p) ≡ behind_defs (suc (length p.defs)) p.defs + opens p.body
block_count p =
    let first = suc (length p.defs) in
    let defs = def_bodies first p.defs in
    let main = behind_defs first p.defs in
    let a : length (blocks_of p) ≡ length (bodies_of p) = each_many body_code (bodies_of p) in
    let b : length (defs ++ inner_bodies defs ++ (bodies_in main p.body ++ [])) ≡ length (defs ++ inner_bodies defs) + length (bodies_in main p.body ++ []) = length_join (defs ++ inner_bodies defs) (bodies_in main p.body ++ []) in
    let c : length (defs ++ inner_bodies defs) ≡ length defs + length (inner_bodies defs) = length_join defs (inner_bodies defs) in
    let d : length (bodies_in main p.body ++ []) ≡ length (bodies_in main p.body) + 0 = length_join (bodies_in main p.body) [] in
    let e : length (bodies_in main p.body) ≡ opens p.body = opens_are main p.body in
    let f : length defs ≡ length p.defs = defs_count p.defs first in
    let g : main ≡ first + length (inner_bodies defs) = defs_number p.defs first in
    omega (arith, a, b, c, d, e, f, g)

-- a definition has a node at least, and opens no more blocks than it has nodes
defs_few : (ts : List ErasedTerm) (k : ℕ) → length (inner_bodies (def_bodies k ts)) ≤ defs_nodes ts × length ts ≤ defs_nodes ts
defs_few [] k = (omega arith, omega arith)
defs_few (t ∷ ts) k =
    let next = k + opens t in
    let a : length (bodies_in k t ++ inner_bodies (def_bodies next ts)) ≡ length (bodies_in k t) + length (inner_bodies (def_bodies next ts)) = length_join (bodies_in k t) (inner_bodies (def_bodies next ts)) in
    let b : length (bodies_in k t) ≡ opens t = opens_are k t in
    let c : opens t ≤ term_nodes t = opens_few t in
    let node : 1 ≤ term_nodes t = a_node t in
    let h = defs_few ts next in
    let d : length (inner_bodies (def_bodies next ts)) ≤ defs_nodes ts = h.0 in
    let e : length ts ≤ defs_nodes ts = h.1 in
    (omega (arith, a, b, c, d), omega (arith, node, e))

-- the blocks of a writable program
pub blocks_written : (p : ErasedProgram) → IsProgramWritable p → AreBlocks (blocks_of p)
blocks_written p w =
    let first = suc (length p.defs) in
    let defs = def_bodies first p.defs in
    let main = behind_defs first p.defs in
    let n = length (blocks_of p) in
    let N = program_nodes p in
    let count : n ≡ main + opens p.body = block_count p in
    let behind : main ≡ first + length (inner_bodies defs) = defs_number p.defs first in
    let few = defs_few p.defs first in
    let inner : length (inner_bodies defs) ≤ defs_nodes p.defs = few.0 in
    let many : length p.defs ≤ defs_nodes p.defs = few.1 in
    let body : opens p.body ≤ term_nodes p.body = opens_few p.body in
    let small : defs_nodes p.defs + term_nodes p.body < 2 ^ 30 = w.small in
    let room : length p.defs < n = omega (arith, count, behind) in
    let less : main ≤ n = omega (arith, count) in
    let last : main + opens p.body ≤ n = omega (arith, count) in
    let some : defs_nodes p.defs ≤ N = omega arith in
    let rest : term_nodes p.body ≤ N = omega arith in
    let h = ready_defs (length p.defs) n room N w.small first p.defs w.defs less some in
    let forms = each_join (Ready (length p.defs) n room N) (bodies_in main p.body) [] (ready_in (length p.defs) n room N main p.body w.body last rest) tt in
    let outer = each_join (Ready (length p.defs) n room N) defs (inner_bodies defs) h.0 h.1 in
    let all : Each (Ready (length p.defs) n room N) (bodies_of p) =
    ((w.body, last, rest), each_join (Ready (length p.defs) n room N) (defs ++ inner_bodies defs) (bodies_in main p.body ++ []) outer forms) in
    record {
      some = omega (arith, count, behind);
      few = omega (arith, count, behind, inner, many, body, small);
      blocks = all_of (IsBlock n) (blocks_of p) (are_blocks (length p.defs) n room N w.small (bodies_of p) all);
    }
