-- The text of the soak program.
use Rattle.std.specs.Prelude.{ℕ, ◌-◌, ◌++◌, List, map, flat_map, codes, decimal}
use Rattle.std.specs.List.{range_with_len}
use Rattle.core_syntax.specs.Norm.{spaced}

-- the definition with this number, on its line: a function that multiplies by the number and adds 1
abbrev pub definition_text : ℕ → List ℕ
definition_text i = codes "(define f" ++ decimal i ++ codes " (-> (Int) Int) (fn ((x Int)) Int (+ (* x " ++ decimal i ++ codes ") 1)))\n"

-- the cell with this number: that function, applied to the number
abbrev pub cell_text : ℕ → List ℕ
cell_text i = codes "(f" ++ decimal i ++ codes " " ++ decimal i ++ codes ")"

-- `main`, on its line: the sum of a frame of k cells
abbrev pub main_text : ℕ → List ℕ
main_text k =
    codes "(main () ((i-app (t-app reduce Int) " ++ decimal (k - 1) ++ codes " (shape)) + (frame (" ++ decimal k ++ codes ")" ++
    spaced (map cell_text (range_with_len 0 k)) ++ codes ")))\n"

-- the program: k definitions, and `main`
abbrev pub program_text : ℕ → List ℕ
program_text k = flat_map definition_text (range_with_len 0 k) ++ main_text k
