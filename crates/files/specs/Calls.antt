-- Believed. A call list: the called pairs, ascending. Document 01, "Call list".
use Rattle.std.specs.Prelude.{ℕ, true, false, ◌&&◌, List, eqb, leb}
use Rattle.files.specs.Field.{bits, kind_of, labels_of, state_of}
use Rattle.files.specs.Refuse.{◌then◌, ◌unless◌, file_check}
use Rattle.files.specs.Scan.{scan_ordered}

-- a call word by itself
abbrev pub call_check : ℕ → ℕ → ℕ
call_check n w = 5 unless (eqb (kind_of w) 12 && eqb (bits 27 20 w) 0) then 10 unless leb (state_of w) n

abbrev pub calls_check : List ℕ → ℕ
calls_check ws = file_check 11 false true (λ h ws. scan_ordered (call_check (labels_of h)) 0 ws) ws
