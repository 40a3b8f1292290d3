-- What is known of modules and declarations that are read from files, and of the module that is made of them.
use Rattle.std.proofs.Common.{◌≡◌, ℕ, ◌≤◌, List, [], ◌∷◌, length, All, IfOk, Ok, Err, Result, false, arith}
use Rattle.std.specs.Str.{IsUtf8}
use Rattle.wasm_syntax.specs.declared.forms.Form.TheVariants.{Core}
use Rattle.wasm_syntax.specs.declared.limits.TheConstants.{MAX_FILE_BYTES}
use Rattle.wasm_syntax.specs.declared.modules.Module.{Module}
use Rattle.wasm_syntax.specs.Encoding.Laws.{EncodableInCore, EncodableIsEncoded, EncodedIsEncodable, NoneIsShorter, ReplayIsInCore}
use Rattle.wasm_syntax.specs.Encoding.Modules.{Encodes}
use Rattle.wasm_syntax.specs.Encoding.Shortest.{encoding_of}
use Rattle.wasm_syntax.specs.ListsWithin.{HasListsWithin, ListsAreWithinEncoding}
use Rattle.wasm_syntax.specs.Profile.{IsSupported}
use Rattle.wasm_syntax.proofs.FuncTypes.{func_count_is}
use Rattle.wasm_flat.specs.Sizes.{IsShort}
use Rattle.type_safety.specs.Supplies.{HasBytes}
use Rattle.instance_spec.specs.declared.decls.Decl.{Decl}
use Rattle.instance_spec.specs.DeclSizes.{decls_size}
use Rattle.instance_spec.specs.Laws.{AreDecls}
use Rattle.instance_spec.specs.WidenedLaws.{HaveFewParameters, WidenedAreAccepted, WidenedAreCore, WidenedAreEncodable, WidenedAreSupported}
use Rattle.instance_laws.specs.SizeLaws.{WidenedAreShort, WidenedAreWithin}
use Rattle.decl_text.specs.Laws.{DeclarationsAreWithinTexts, DeclarationsFit}
use Rattle.decl_text.specs.Texts.{decls_of_text}
use Rattle.r3_faults.specs.declared.faults.Fault.{Fault}
use Rattle.r3_inputs.specs.Inputs.{IsModuleOf}
use Rattle.r3_make.specs.Records.{IsOriginalModule}
use Rattle.r3_instances.specs.ForeignInputs.{widened_of}
use Rattle.r3_instances.specs.RecordedModules.{CanBeRecorded, CanBeWidened, IsFromFile}
use Rattle.r3_instances.specs.declared.declared_modules.DeclaredModule.{DeclaredModule}

-- declarations have at least as great a size as there are of them
pub decls_few : (decls : List Decl) → length decls ≤ decls_size decls
decls_few [] = omega arith
decls_few (d ∷ decls) = let more = decls_few decls in omega (arith, more)

-- a module that is read from a file
is_from_file : (bytes : List ℕ) (m : Module) → length bytes ≤ MAX_FILE_BYTES → EncodedIsEncodable → NoneIsShorter
    → IsModuleOf bytes m → IsSupported m → IsShort m → HasBytes m → HasListsWithin (length bytes) m → IsFromFile m
is_from_file bytes m small encodable least is supported short has within = record {
  accepted = is.accepted;
  supported = supported;
  short = short;
  bytes = has;
  encodable = encodable Core bytes m is.encoded;
  within = let shortest = least Core bytes m is.encoded in omega (arith, shortest, small);
  parts = let parts = within.parts in omega (arith, parts, small);
  funcs = let funcs = within.funcs in omega (arith, funcs, small);
}

-- the call that reads it ensures this
pub all_from_file : (bytes : List ℕ) (q : Result Module Fault) → length bytes ≤ MAX_FILE_BYTES → EncodedIsEncodable
    → NoneIsShorter → IfOk q (IsModuleOf bytes) → IfOk q IsSupported → IfOk q IsShort → IfOk q HasBytes
    → IfOk q (HasListsWithin (length bytes)) → IfOk q IsFromFile
all_from_file bytes (Ok m) small encodable least is supported short has within =
    is_from_file bytes m small encodable least is supported short has within
all_from_file bytes (Err fault) small encodable least is supported short has within = tt

-- ---- declarations

module _ (decl_bytes : List ℕ) (m : Module) (decls : List Decl) (file : IsFromFile m)
    (few : length decl_bytes ≤ MAX_FILE_BYTES) (read : decls_of_text m decl_bytes ≡ Ok decls)
    (names : All (λ (d : Decl). IsUtf8 d.name) decls) (sizes : DeclarationsAreWithinTexts)
    (fit : DeclarationsFit) where
  size : decls_size decls ≤ length decl_bytes
  size = sizes m decl_bytes decls read

  count : length decls ≤ length decl_bytes
  count = let few = decls_few decls in omega (arith, few, size)

  fitting : AreDecls m decls × HaveFewParameters decls
  fitting =
      let all = func_count_is m in
      let funcs = file.funcs in
      fit m decl_bytes decls read file.accepted.valid (omega (arith, all, funcs, count, few))

  pub can_be_widened : CanBeWidened (record { checked = m; decls = decls })
  can_be_widened = record {
    file = file;
    writable = record {
      are = fitting.0;
      names = names;
      few_types = let parts = file.parts in omega (arith, parts, count, few);
    };
    few_parameters = fitting.1;
    size = omega (arith, size, few);
    types = let parts = file.parts in omega (arith, parts, count, few);
    funcs = let funcs = file.funcs in omega (arith, funcs, count, few);
  }

-- the widened module can be recorded
pub can_be_recorded : WidenedAreAccepted → WidenedAreCore → WidenedAreEncodable → WidenedAreShort → WidenedAreSupported
    → WidenedAreWithin → EncodableInCore → (declared : DeclaredModule) → CanBeWidened declared
    → CanBeRecorded (widened_of declared)
can_be_recorded accepted core encodable short supported within in_core declared is =
    let m = declared.checked in
    let decls = declared.decls in
    let file = is.file in
    record {
      accepted = accepted false m decls file.accepted is.writable.are is.few_parameters;
      supported = supported m decls file.supported is.few_parameters;
      short = short m decls file.short is.few_parameters is.types is.funcs;
      bytes = file.bytes;
      core = core m decls (in_core m file.encodable);
      encodable = encodable.core_form m decls file.encodable file.accepted.valid is.writable;
      within = within m decls file.within is.size;
    }

-- a module that can be recorded has an encoding, its shortest one
pub original_module : (m : Module) → CanBeRecorded m → EncodableIsEncoded → ReplayIsInCore → ListsAreWithinEncoding
    → IsOriginalModule m
original_module m can encoded in_core lists =
    let is : Encodes Core (encoding_of m) m =
    let small = can.within in encoded Core m (in_core m can.encodable can.core) (omega (arith, small))
    in
    record {
      bytes = encoding_of m;
      is_module = record { encoded = is; accepted = can.accepted };
      small = can.within;
      within = lists Core (encoding_of m) m is;
      has_bytes = can.bytes;
    }
