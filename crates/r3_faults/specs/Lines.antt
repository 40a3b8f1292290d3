-- The status and the line on the error stream for each fault.
use Rattle.std.specs.Prelude.{ℕ, ◌+◌, ◌/◌, ◌%◌, ◌==◌, ◌&&◌, Bool, not, nat_lt, List, [], ◌∷◌, ◌++◌, flat_map, codes, decimal, if◌then◌else◌, ◌⊎◌, Option}
use Rattle.r3_outside.specs.Count.{Rose}
use Rattle.r3_outside.specs.Growth.{Grew, GrewByPrefix}
use Rattle.wasm_syntax.specs.declared.profile.Feature.{Feature}
use Rattle.wasm_syntax.specs.declared.profile.Feature.TheVariants.{FloatComparison, FloatArithmetic, FloatConversion}
use Rattle.wasm_syntax.specs.declared.profile.Which.{Which}
use Rattle.wasm_syntax.specs.declared.profile.Which.TheVariants.{Parameters, Table, Memory as MemoryPages, Locals}
use Rattle.history_spec.specs.declared.entries.FaultKind.{FaultKind}
use Rattle.history_spec.specs.declared.entries.FaultKind.TheVariants as kind
use Rattle.instance_spec.specs.declared.sides.Side.{Side}
use Rattle.instance_spec.specs.declared.sides.Side.TheVariants.{Left, Right}
use Rattle.r3_faults.specs.declared.faults.Fault.{Fault}
use Rattle.r3_faults.specs.declared.faults.Fault.TheVariants.{Usage, Read, TooLong, Malformed, InvalidFunction, InvalidModule, Unsupported, Limit, Reserved, NotJson, Shape, UnknownName, WrongType, NoAccess, CallsOwn, Missing, Mismatch, Segment, Script, Spent, Write, Memory, BadTrace, TraceVersion, OtherModule, NotHooked, HookOrder, Unbalanced, Unfit, NoLayout, NoImports, NoEntry, TapeLimit, DeclNotJson, DeclShape, DeclReserved, DeclTaken, PairUnresolved, PairMismatch, TwoMemories, TwoTables, TwoStarts, NoCall, HookedLimit}
use Rattle.hex.specs.Hex.{encode_lower}

-- the status with which the program ends after the fault
abbrev pub status_of : Fault → ℕ
status_of Usage = 2
status_of (Read name) = 3
status_of (TooLong name limit) = 4
status_of (Malformed at) = 5
status_of (InvalidFunction func) = 6
status_of InvalidModule = 6
status_of (Unsupported func number feature) = 7
status_of (Limit which value) = 8
status_of (Reserved import) = 8
status_of NotJson = 9
status_of (Shape path) = 9
status_of (UnknownName name) = 9
status_of (WrongType name) = 9
status_of (NoAccess name) = 9
status_of (CallsOwn name) = 9
status_of (Missing import) = 10
status_of (Mismatch import) = 10
status_of (Segment number) = 10
status_of (Script turn kind) = 11
status_of (Spent turns) = 12
status_of Write = 13
status_of Memory = 14
status_of (BadTrace at) = 15
status_of (TraceVersion found) = 15
status_of (OtherModule tape given) = 16
status_of NotHooked = 17
status_of (HookOrder number) = 17
status_of (Unbalanced event) = 17
status_of (Unfit segment) = 17
status_of NoLayout = 17
status_of NoImports = 17
status_of NoEntry = 17
status_of (TapeLimit weight) = 18
status_of DeclNotJson = 20
status_of (DeclShape path) = 20
status_of (DeclReserved import) = 20
status_of (DeclTaken name) = 20
status_of (PairUnresolved side import) = 21
status_of (PairMismatch side import) = 21
status_of TwoMemories = 21
status_of TwoTables = 21
status_of TwoStarts = 21
status_of (NoCall k calls) = 22
status_of HookedLimit = 23

-- a byte that is printed as it is: from the space to `~`, except `\`
abbrev pub is_plain : ℕ → Bool
is_plain byte = nat_lt 31 byte && nat_lt byte 127 && not (byte == 92)

abbrev pub hex_digit : ℕ → ℕ
hex_digit digit = if nat_lt digit 10 then 48 + digit else 87 + digit

-- the escape of any other byte: `\` and two lower-case hexadecimal digits
abbrev pub escaped_byte : ℕ → List ℕ
escaped_byte byte = if is_plain byte then byte ∷ [] else 92 ∷ hex_digit (byte / 16) ∷ hex_digit (byte % 16) ∷ []

abbrev pub escaped : List ℕ → List ℕ
escaped bytes = flat_map escaped_byte bytes

-- a line of a text and a number; a line of a text and a name
abbrev pub with_number : List ℕ → ℕ → List ℕ
with_number text number = text ++ (decimal number ++ codes "\n")

abbrev pub with_name : List ℕ → List ℕ → List ℕ
with_name text name = text ++ (escaped name ++ codes "\n")

abbrev pub feature_text : Feature → List ℕ
feature_text FloatComparison = codes " float comparison"
feature_text FloatArithmetic = codes " float arithmetic"
feature_text FloatConversion = codes " float conversion"

abbrev pub kind_text : FaultKind → List ℕ
kind_text kind.NoResponse = codes " no response"
kind_text kind.Outside = codes " outside"
kind_text kind.TableOutside = codes " table outside"
kind_text kind.GrowRefused = codes " grow refused"
kind_text kind.EmptyEntry = codes " empty entry"
kind_text kind.CallsOwn = codes " calls own"
kind_text kind.EntryType = codes " entry type"

abbrev pub limit_text : Which → List ℕ
limit_text Parameters = codes "limit: parameters "
limit_text Table = codes "limit: table "
limit_text MemoryPages = codes "limit: memory "
limit_text Locals = codes "limit: locals "

abbrev pub unresolved_text : Side → List ℕ
unresolved_text Left = codes "pair: unresolved left "
unresolved_text Right = codes "pair: unresolved right "

abbrev pub mismatch_text : Side → List ℕ
mismatch_text Left = codes "pair: mismatch left "
mismatch_text Right = codes "pair: mismatch right "

-- the line that is written on the error stream for the fault
abbrev pub line_of : Fault → List ℕ
line_of Usage = codes "usage\n"
line_of (Read name) = with_name (codes "read: ") name
line_of (TooLong name limit) = codes "too long: " ++ (escaped name ++ with_number (codes " ") limit)
line_of (Malformed at) = with_number (codes "malformed: at ") at
line_of (InvalidFunction func) = with_number (codes "invalid: function ") func
line_of InvalidModule = codes "invalid: module\n"
line_of (Unsupported func number feature) =
    codes "unsupported: function "
    ++ (decimal func ++ (codes " instruction " ++ (decimal number ++ (feature_text feature ++ codes "\n"))))
line_of (Limit which value) = with_number (limit_text which) value
line_of (Reserved import) = with_number (codes "reserved: import ") import
line_of NotJson = codes "script: not json\n"
line_of (Shape path) = with_name (codes "script: shape ") path
line_of (UnknownName name) = with_name (codes "script: unknown ") name
line_of (WrongType name) = with_name (codes "script: type ") name
line_of (NoAccess name) = with_name (codes "script: no access ") name
line_of (CallsOwn name) = with_name (codes "script: calls own ") name
line_of (Missing import) = with_number (codes "link: missing import ") import
line_of (Mismatch import) = with_number (codes "link: mismatch import ") import
line_of (Segment number) = with_number (codes "link: segment ") number
line_of (Script turn kind) = codes "script fault: turn " ++ (decimal turn ++ (kind_text kind ++ codes "\n"))
line_of (Spent turns) = with_number (codes "turns spent: ") turns
line_of Write = codes "write\n"
line_of Memory = codes "memory\n"
line_of (BadTrace at) = with_number (codes "trace: bad at ") at
line_of (TraceVersion found) = with_number (codes "trace: version ") found
line_of (OtherModule tape given) =
    codes "other module: " ++ (encode_lower tape ++ (codes " " ++ (encode_lower given ++ codes "\n")))
line_of NotHooked = codes "not hooked\n"
line_of (HookOrder number) = with_number (codes "hook order: call ") number
line_of (Unbalanced event) = with_number (codes "unbalanced: event ") event
line_of (Unfit segment) = with_number (codes "tape: segment ") segment
line_of NoLayout = codes "replay: layout\n"
line_of NoImports = codes "replay: imports\n"
line_of NoEntry = codes "replay: entry\n"
line_of (TapeLimit weight) = with_number (codes "tape limit: ") weight
line_of DeclNotJson = codes "declarations: not json\n"
line_of (DeclShape path) = with_name (codes "declarations: shape ") path
line_of (DeclReserved import) = with_number (codes "declarations: reserved ") import
line_of (DeclTaken name) = with_name (codes "declarations: taken ") name
line_of (PairUnresolved side import) = with_number (unresolved_text side) import
line_of (PairMismatch side import) = with_number (mismatch_text side) import
line_of TwoMemories = codes "pair: two memories\n"
line_of TwoTables = codes "pair: two tables\n"
line_of TwoStarts = codes "pair: two starts\n"
line_of (NoCall k calls) =
    codes "no call: " ++ (decimal k ++ (codes " of " ++ (decimal calls ++ codes "\n")))
line_of HookedLimit = codes "hooked limit: 134217728\n"

-- the line was written whole, or a first part of it was written and the count of faults rose
abbrev pub IsReported : (before now : Option (List ℕ)) (faults_before faults_now : ℕ) → List ℕ → Type 0
IsReported before now faults_before faults_now line =
    Grew before now line ⊎ (GrewByPrefix before now line × Rose faults_before faults_now)
