-- Which literals the text of a program can hold.
use Rattle.std.specs.Prelude.{◌^◌, true, ◌≡◌, ⊤, IsTrue}
use Rattle.std.specs.Char.{IsScalar}
use Rattle.core_syntax.specs.Syntax.{Expr, TermVar, DefVar, Array, NoAtoms, Frame, NoCells, App, TypeApp, IndexApp, Unbox, Exprs, no_exprs, more_exprs, Atom, IntAtom, BoolAtom, CharAtom, PrimAtom, Fn, TypeFn, IndexFn, Boxed, Atoms, no_atoms, more_atoms, Program}
use Rattle.core_syntax.specs.Lists.{Each}
use Rattle.core_syntax.specs.Fits.{all_below}
use Rattle.core_syntax.specs.Delta.{is_int}

-- in an expression, integers are of 64 bits, characters are Unicode scalar values, and the dims of array literals are below 2^32
abbrev mutual
  pub ExprLiterals : Expr → Type 0
  ExprLiterals (TermVar at k) = ⊤
  ExprLiterals (DefVar at k) = ⊤
  ExprLiterals (Array at dims xs) = (all_below (2 ^ 32) dims ≡ true) × AtomsLiterals xs
  ExprLiterals (NoAtoms at dims t) = all_below (2 ^ 32) dims ≡ true
  ExprLiterals (Frame at dims es) = ExprsLiterals es
  ExprLiterals (NoCells at dims t) = ⊤
  ExprLiterals (App at f es) = ExprLiterals f × ExprsLiterals es
  ExprLiterals (TypeApp at e ts) = ExprLiterals e
  ExprLiterals (IndexApp at e is) = ExprLiterals e
  ExprLiterals (Unbox at n e t b) = ExprLiterals e × ExprLiterals b

  -- in each of a list
  pub ExprsLiterals : Exprs → Type 0
  ExprsLiterals no_exprs = ⊤
  ExprsLiterals (more_exprs e es) = ExprLiterals e × ExprsLiterals es

  -- in an atom
  pub AtomLiterals : Atom → Type 0
  AtomLiterals (IntAtom at z) = IsTrue (is_int z)
  AtomLiterals (BoolAtom at b) = ⊤
  AtomLiterals (CharAtom at c) = IsScalar c
  AtomLiterals (PrimAtom at p) = ⊤
  AtomLiterals (Fn at ts r e) = ExprLiterals e
  AtomLiterals (TypeFn at n e) = ExprLiterals e
  AtomLiterals (IndexFn at ss e) = ExprLiterals e
  AtomLiterals (Boxed at is e t) = ExprLiterals e

  -- in each atom of a list
  pub AtomsLiterals : Atoms → Type 0
  AtomsLiterals no_atoms = ⊤
  AtomsLiterals (more_atoms a xs) = AtomLiterals a × AtomsLiterals xs

-- in the definitions and the body of a program
abbrev pub LiteralsFit : Program → Type 0
LiteralsFit P = Each (λ d. ExprLiterals d.value) P.defs × ExprLiterals P.body
