-- The atoms of an array, the cells of a frame and the arguments of an application, one after another.
use Rattle.std.proofs.Common.{◌≡◌, refl, sym, ap, subst, ℕ, suc, List, [], ◌∷◌, ◌++◌, append_assoc, length, inr, arith}
use Rattle.core_syntax.specs.declared.index.Sort.{Sort}
use Rattle.core_syntax.specs.declared.index.Sort.TheVariants as sort
use Rattle.core_syntax.specs.declared.expr.Expr.{Expr}
use Rattle.core_syntax.specs.declared.expr.Atom.{Atom}
use Rattle.core_syntax.specs.declared.ty.Ty.{Ty}
use Rattle.core_syntax.specs.Refine.{ty_of, tys_of, expr_of, exprs_of, atom_of, atoms_of}
use Rattle.core_syntax.specs.Syntax as syntax
use Rattle.core_syntax.specs.Lists.{each, Each}
use Rattle.core_syntax.specs.Sorts.{IsSorted, Refusal}
use Rattle.core_syntax.specs.Word.{Word}
use Rattle.core_syntax.specs.Norm.{norm_word}
use Rattle.core_syntax.specs.Typing.{Context, AtomsHave, ExprsHave, ArgsHave}
use Rattle.core_syntax.specs.Blame.{later_atoms, later_cells, args_premises}
use Rattle.core_syntax.specs.Notes.{NodeNote, AtomsNotesAre, ExprsNotesAre}
use Rattle.type_check.specs.FoundParts.{FoundAtoms, FoundCells, FoundArgs}

-- ---- notes

atoms_notes : (Γ : Context) (xs ys : List Atom) (ns ms : List NodeNote) → AtomsNotesAre Γ (atoms_of xs) ns → AtomsNotesAre Γ (atoms_of ys) ms →
    AtomsNotesAre Γ (atoms_of (xs ++ ys)) (ns ++ ms)
atoms_notes Γ [] ys ns ms h k = subst (λ (l : List NodeNote). AtomsNotesAre Γ (atoms_of ys) (l ++ ms)) (sym h) k
atoms_notes Γ (x ∷ xs) ys ns ms (a, b, e, h, j) k =
    (a, b ++ ms, subst (λ (l : List NodeNote). l ++ ms ≡ a ++ (b ++ ms)) (sym e) (append_assoc a b ms), h, atoms_notes Γ xs ys b ms j k)

exprs_notes : (Γ : Context) (xs ys : List Expr) (ns ms : List NodeNote) → ExprsNotesAre Γ (exprs_of xs) ns → ExprsNotesAre Γ (exprs_of ys) ms →
    ExprsNotesAre Γ (exprs_of (xs ++ ys)) (ns ++ ms)
exprs_notes Γ [] ys ns ms h k = subst (λ (l : List NodeNote). ExprsNotesAre Γ (exprs_of ys) (l ++ ms)) (sym h) k
exprs_notes Γ (x ∷ xs) ys ns ms (a, b, e, h, j) k =
    (a, b ++ ms, subst (λ (l : List NodeNote). l ++ ms ≡ a ++ (b ++ ms)) (sym e) (append_assoc a b ms), h, exprs_notes Γ xs ys b ms j k)

-- ---- atoms

atoms_met : (Γ : Context) (t : syntax.Ty) (xs ys : List Atom) → (later_atoms Γ t (atoms_of xs)).met → (later_atoms Γ t (atoms_of ys)).met →
    (later_atoms Γ t (atoms_of (xs ++ ys))).met
atoms_met Γ t [] ys h k = k
atoms_met Γ t (x ∷ xs) ys h k = (h.0, (h.1.0, atoms_met Γ t xs ys h.1.1 k))

atoms_have : (Γ : Context) (t : syntax.Ty) (xs ys : List Atom) → AtomsHave Γ (atoms_of xs) t → AtomsHave Γ (atoms_of ys) t → AtomsHave Γ (atoms_of (xs ++ ys)) t
atoms_have Γ t [] ys h k = k
atoms_have Γ t (x ∷ xs) ys h k = (h.0, atoms_have Γ t xs ys h.1 k)

-- the blame of later atoms is that of all
pub atoms_blame : (Γ : Context) (t : syntax.Ty) (xs ys : List Atom) (r : Refusal) → (later_atoms Γ t (atoms_of xs)).met → (later_atoms Γ t (atoms_of ys)).blames r →
    (later_atoms Γ t (atoms_of (xs ++ ys))).blames r
atoms_blame Γ t [] ys r h k = k
atoms_blame Γ t (x ∷ xs) ys r h k = inr (h.0, inr (h.1.0, atoms_blame Γ t xs ys r h.1.1 k))

pub atoms_found : (Γ : Context) (t : syntax.Ty) (xs ys : List Atom) (ns ms : List NodeNote) → FoundAtoms Γ t (atoms_of xs) ns → FoundAtoms Γ t (atoms_of ys) ms →
    FoundAtoms Γ t (atoms_of (xs ++ ys)) (ns ++ ms)
atoms_found Γ t xs ys ns ms h k = record {
  met = atoms_met Γ t xs ys h.met k.met;
  have = atoms_have Γ t xs ys h.have k.have;
  notes = atoms_notes Γ xs ys ns ms h.notes k.notes;
}

-- ---- cells

cells_met : (Γ : Context) (t : syntax.Ty) (xs ys : List Expr) → (later_cells Γ t (exprs_of xs)).met → (later_cells Γ t (exprs_of ys)).met →
    (later_cells Γ t (exprs_of (xs ++ ys))).met
cells_met Γ t [] ys h k = k
cells_met Γ t (x ∷ xs) ys h k = (h.0, (h.1.0, cells_met Γ t xs ys h.1.1 k))

cells_have : (Γ : Context) (t : syntax.Ty) (xs ys : List Expr) → ExprsHave Γ (exprs_of xs) t → ExprsHave Γ (exprs_of ys) t → ExprsHave Γ (exprs_of (xs ++ ys)) t
cells_have Γ t [] ys h k = k
cells_have Γ t (x ∷ xs) ys h k = (h.0, cells_have Γ t xs ys h.1 k)

-- the blame of later cells is that of all
pub cells_blame : (Γ : Context) (t : syntax.Ty) (xs ys : List Expr) (r : Refusal) → (later_cells Γ t (exprs_of xs)).met → (later_cells Γ t (exprs_of ys)).blames r →
    (later_cells Γ t (exprs_of (xs ++ ys))).blames r
cells_blame Γ t [] ys r h k = k
cells_blame Γ t (x ∷ xs) ys r h k = inr (h.0, inr (h.1.0, cells_blame Γ t xs ys r h.1.1 k))

pub cells_found : (Γ : Context) (t : syntax.Ty) (xs ys : List Expr) (ns ms : List NodeNote) → FoundCells Γ t (exprs_of xs) ns → FoundCells Γ t (exprs_of ys) ms →
    FoundCells Γ t (exprs_of (xs ++ ys)) (ns ++ ms)
cells_found Γ t xs ys ns ms h k = record {
  met = cells_met Γ t xs ys h.met k.met;
  have = cells_have Γ t xs ys h.have k.have;
  notes = exprs_notes Γ xs ys ns ms h.notes k.notes;
}

-- ---- arguments, each with its input type

-- none is left over on one side
abbrev pub Paired : List Ty → List Expr → Type 0
Paired ts es = length ts ≡ length es

args_met : (Γ : Context) (ts us : List Ty) (xs ys : List Expr) → Paired ts xs → (args_premises Γ (exprs_of xs) (tys_of ts)).met →
    (args_premises Γ (exprs_of ys) (tys_of us)).met → (args_premises Γ (exprs_of (xs ++ ys)) (tys_of (ts ++ us))).met
args_met Γ [] us [] ys p h k = k
args_met Γ (t ∷ ts) us (x ∷ xs) ys p h k = (h.0, (h.1.0, args_met Γ ts us xs ys (omega (arith, p)) h.1.1 k))
args_met Γ [] us (x ∷ xs) ys p h k = absurd (omega (arith, p))
args_met Γ (t ∷ ts) us [] ys p h k = absurd (omega (arith, p))

args_have : (Γ : Context) (ts us : List Ty) (xs ys : List Expr) (ps qs : List syntax.Index) → ArgsHave Γ (exprs_of xs) (tys_of ts) ps →
    ArgsHave Γ (exprs_of ys) (tys_of us) qs → ArgsHave Γ (exprs_of (xs ++ ys)) (tys_of (ts ++ us)) (ps ++ qs)
args_have Γ [] us [] ys [] qs h k = k
args_have Γ (t ∷ ts) us (x ∷ xs) ys (p ∷ ps) qs h k = (h.0, args_have Γ ts us xs ys ps qs h.1 k)
args_have Γ [] us [] ys (p ∷ ps) qs h k = absurd h
args_have Γ [] us (x ∷ xs) ys ps qs h k = absurd h
args_have Γ (t ∷ ts) us [] ys ps qs h k = absurd h
args_have Γ (t ∷ ts) us (x ∷ xs) ys [] qs h k = absurd h

-- the blame of later arguments is that of all
pub args_blame : (Γ : Context) (ts us : List Ty) (xs ys : List Expr) (r : Refusal) → Paired ts xs → (args_premises Γ (exprs_of xs) (tys_of ts)).met →
    (args_premises Γ (exprs_of ys) (tys_of us)).blames r → (args_premises Γ (exprs_of (xs ++ ys)) (tys_of (ts ++ us))).blames r
args_blame Γ [] us [] ys r p h k = k
args_blame Γ (t ∷ ts) us (x ∷ xs) ys r p h k = inr (h.0, inr (h.1.0, args_blame Γ ts us xs ys r (omega (arith, p)) h.1.1 k))
args_blame Γ [] us (x ∷ xs) ys r p h k = absurd (omega (arith, p))
args_blame Γ (t ∷ ts) us [] ys r p h k = absurd (omega (arith, p))

each_append : {A B : Type 0} (f : A → B) (xs ys : List A) → each f (xs ++ ys) ≡ each f xs ++ each f ys
each_append f [] ys = refl
each_append f (x ∷ xs) ys = ap (λ l. f x ∷ l) (each_append f xs ys)

Each_append : {A : Type 0} (P : A → Type 0) (xs ys : List A) → Each P xs → Each P ys → Each P (xs ++ ys)
Each_append P [] ys h k = k
Each_append P (x ∷ xs) ys h k = (h.0, Each_append P xs ys h.1 k)

pub args_found : (Γ : Context) (ts us : List Ty) (xs ys : List Expr) (ws vs : List Word) (ns ms : List NodeNote) → Paired ts xs →
    FoundArgs Γ (tys_of ts) (exprs_of xs) ws ns → FoundArgs Γ (tys_of us) (exprs_of ys) vs ms →
    FoundArgs Γ (tys_of (ts ++ us)) (exprs_of (xs ++ ys)) (ws ++ vs) (ns ++ ms)
args_found Γ ts us xs ys ws vs ns ms p h k = record {
  met = args_met Γ ts us xs ys p h.met k.met;
  frames = h.frames ++ k.frames;
  have = args_have Γ ts us xs ys h.frames k.frames h.have k.have;
  sorted = Each_append (IsSorted Γ.sorts sort.Shape) h.frames k.frames h.sorted k.sorted;
  normal = subst (λ (l : List Word). each norm_word (h.frames ++ k.frames) ≡ ws ++ l) k.normal
      (subst (λ (l : List Word). each norm_word (h.frames ++ k.frames) ≡ l ++ each norm_word k.frames) h.normal (each_append norm_word h.frames k.frames));
  notes = exprs_notes Γ xs ys ns ms h.notes k.notes;
}
