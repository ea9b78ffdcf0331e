-- What a handler answers to lines, one after the other. `row` is the number of a line.
-- `a` is the progress before lines and `b` after them; R are the rules of the handler.
use Rattle.std.specs.Prelude.{◌≡◌, ℕ, ◌+◌, Bool, List, [], ◌∷◌, ◌++◌, length, Option, Some, None, Result, Ok, Err}
use Rattle.ucl_io.specs.declared.fault.ServeFault.{ServeFault}
use Rattle.ucl_io.specs.declared.fault.ServeFault.TheVariants.{Handler, WriteFailed}
use Rattle.ucl_io.specs.Output.{HasPut, Outlet, StopsIn, Waiting, outlet}

-- what a handler does with a line: it is in one state before, takes number and bytes of the line, and is in another state after;
-- `Answers` holds if it answers by the last bytes, and `Stops` if it has no answer for this fault
pub record Rules (M F : Type 0) : Type 1 where
  pub Answers : M → ℕ → List ℕ → M → List ℕ → Type 0
  pub Stops : M → ℕ → List ℕ → M → F → Type 0

-- the rules of a handler whose relations are these two
abbrev pub rules : {M F : Type 0} → (M → ℕ → List ℕ → M → List ℕ → Type 0) → (M → ℕ → List ℕ → M → F → Type 0) → Rules M F
rules answers stops = record { Answers = answers; Stops = stops }

-- a handler, which is m at first and n in the end, was given these lines, one after the other; the first has the number `row`. It answered each,
-- and its answers make up the text; but if there is a fault, it has no answer to the last line, for this fault
pub data Turns {M F : Type 0} (R : Rules M F) : ℕ → M → List (List ℕ) → List ℕ → M → Option F → Type 0 where
  done : {row : ℕ} {m : M} → Turns R row m [] [] m None
  turn : {row : ℕ} {m n : M} {lines : List (List ℕ)} {more : List ℕ} {fault : Option F} (line text : List ℕ) (k : M) → R.Answers m row line k text
      → Turns R (row + 1) k lines more n fault → Turns R row m (line ∷ lines) (text ++ more) n fault
  stops : {row : ℕ} {m n : M} {fault : F} (line : List ℕ) → R.Stops m row line n fault → Turns R row m (line ∷ []) [] n (Some fault)

-- the state between two lines: the number of the next, the handler, and the sink with the answers that wait
pub record Progress (M : Type 0) : Type 0 where
  pub row : ℕ
  pub handler : M
  pub outlet : Outlet

-- the progress of a handler and a sink before the line with this number
abbrev pub progress : {W M : Type 0} → (W → Option (List ℕ)) → (W → Bool) → ℕ → M → Waiting → W → Progress M
progress taken failed row handler waiting sink = record { row = row; handler = handler; outlet = outlet taken failed waiting sink }

-- what came of lines, by the result: all were given and answered, and the answers put; or the sink failed in the answers; or the handler has no
-- answer to the last that was given, and nothing waits
abbrev pub ComesOut : {V M F : Type 0} → Progress M → Progress M → List (List ℕ) → List (List ℕ) → List ℕ → Option F → Result V (ServeFault F) → Type 0
ComesOut a b given rest text fault (Ok v) = (rest ≡ []) × (fault ≡ None) × (b.row ≡ a.row + length given) × HasPut a.outlet b.outlet text
ComesOut a b given rest text fault (Err (WriteFailed written)) = StopsIn a.outlet b.outlet text written
ComesOut a b given rest text fault (Err (Handler why)) = (fault ≡ Some why) × HasPut a.outlet b.outlet text × (b.outlet.held ≡ [])
ComesOut a b given rest text fault (Err _) = ⊥

-- the first of these lines were given to the handler and the rest was not, and the result says why
pub record Answered {V M F : Type 0} (R : Rules M F) (a b : Progress M) (lines : List (List ℕ)) (result : Result V (ServeFault F)) : Type 0 where
  pub given : List (List ℕ)
  pub rest : List (List ℕ)
  pub text : List ℕ
  pub fault : Option F
  pub lines_are : lines ≡ given ++ rest
  pub run : Turns R a.row a.handler given text b.handler fault
  pub ends : ComesOut a b given rest text fault result

-- the bytes after the last line feed were answered and nothing waits; or the sink failed; or the handler has no answer, and no text is put
abbrev pub Closed : {V M F : Type 0} → Rules M F → Progress M → Progress M → List ℕ → Result V (ServeFault F) → Type 0
Closed R a b line (Ok v) = (text : List ℕ) × R.Answers a.handler a.row line b.handler text × HasPut a.outlet b.outlet text × (b.outlet.held ≡ [])
Closed R a b line (Err (WriteFailed written)) = (text : List ℕ) × R.Answers a.handler a.row line b.handler text × StopsIn a.outlet b.outlet text written
Closed R a b line (Err (Handler fault)) = R.Stops a.handler a.row line b.handler fault × (b.outlet ≡ a.outlet)
Closed R a b line (Err _) = ⊥
