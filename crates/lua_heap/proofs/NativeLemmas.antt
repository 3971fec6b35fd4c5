-- Functions of the library are told apart by where they stand and by their names.
use Rattle.std.proofs.Common.{◌≡◌, ℕ, Bool, true, false, cond, List, [], ◌∷◌, Option, None, Some, refl, sym, ap, ◌∙◌}
use Rattle.std.specs.Prelude.{◌&&◌, bytes_eq, nat_eq}
use Rattle.std.proofs.lemmas.Option.{same_Some}
use Rattle.std.proofs.lemmas.Bool.Decides.{Decides-eqb}
use Rattle.std.proofs.lemmas.Slice.Eq.{bytes_eq-Decides}
use Rattle.lua_meaning.specs.Native.{shelf, name, shelf_number, same_native}
use Rattle.lua_heap.specs.declared.native.Native.{Native}
use Rattle.lua_heap.specs.declared.native.Native.TheVariants.{Assert, CollectGarbage, Error, GetMetatable, Ipairs, Next, Pairs, Pcall, Print, RawEqual, RawGet, RawSet, Require, Select, SetMetatable, ToNumber, ToString, TypeName, Unpack, StringByte, StringChar, StringFind, StringFormat, StringLen, StringLower, StringRep, StringReverse, StringSub, StringUpper, TableConcat, TableInsert, TableMaxn, TableRemove, TableSort, MathAbs, MathCeil, MathFloor, MathFmod, MathMax, MathMin, MathPow, LoveThreadGetChannel, LoveThreadNewChannel, LoveThreadNewThread, LoveDataNewByteData, LoveDataNewDataView, LoveFilesystemNewFileData, LoveFilesystemRead, LoveEventClear, LoveEventPoll, LoveEventPump, LoveEventPush, LoveEventQuit, ChannelClear, ChannelDemand, ChannelGetCount, ChannelHasRead, ChannelPeek, ChannelPerformAtomic, ChannelPop, ChannelPush, ChannelSupply, ThreadGetError, ThreadIsRunning, ThreadStart, ThreadWait, DataGetFilename, DataGetSize, DataGetString, ObjectType, ObjectTypeOf, IpairsWalk, PollWalk}
use Rattle.lua_heap.specs.Native.{native_view}

unfoldable every : List Native
every =
    Assert ∷ CollectGarbage ∷ Error ∷ GetMetatable ∷ Ipairs ∷ Next ∷ Pairs ∷ Pcall ∷ Print ∷ RawEqual ∷ RawGet ∷ RawSet ∷ Require ∷ Select ∷ SetMetatable ∷ ToNumber ∷ ToString ∷ TypeName ∷ Unpack ∷ StringByte ∷ StringChar ∷ StringFind ∷ StringFormat ∷ StringLen ∷ StringLower ∷ StringRep ∷ StringReverse ∷ StringSub ∷ StringUpper ∷ TableConcat ∷ TableInsert ∷ TableMaxn ∷ TableRemove ∷ TableSort ∷ MathAbs ∷ MathCeil ∷ MathFloor ∷ MathFmod ∷ MathMax ∷ MathMin ∷ MathPow ∷ LoveThreadGetChannel ∷ LoveThreadNewChannel ∷ LoveThreadNewThread ∷ LoveDataNewByteData ∷ LoveDataNewDataView ∷ LoveFilesystemNewFileData ∷ LoveFilesystemRead ∷ LoveEventClear ∷ LoveEventPoll ∷ LoveEventPump ∷ LoveEventPush ∷ LoveEventQuit ∷ ChannelClear ∷ ChannelDemand ∷ ChannelGetCount ∷ ChannelHasRead ∷ ChannelPeek ∷ ChannelPerformAtomic ∷ ChannelPop ∷ ChannelPush ∷ ChannelSupply ∷ ThreadGetError ∷ ThreadIsRunning ∷ ThreadStart ∷ ThreadWait ∷ DataGetFilename ∷ DataGetSize ∷ DataGetString ∷ ObjectType ∷ ObjectTypeOf ∷ IpairsWalk ∷ PollWalk ∷ []

-- the function at a place by a name
unfoldable picked : ℕ → List ℕ → List Native → Option Native
picked at key [] = None
picked at key (f ∷ fs) =
    cond (nat_eq (shelf_number (shelf (native_view f))) at && bytes_eq (name (native_view f)) key) (Some f) (picked at key fs)

picks : (f : Native) → picked (shelf_number (shelf (native_view f))) (name (native_view f)) every ≡ Some f
unfolding picked every
picks Assert = refl
picks CollectGarbage = refl
picks Error = refl
picks GetMetatable = refl
picks Ipairs = refl
picks Next = refl
picks Pairs = refl
picks Pcall = refl
picks Print = refl
picks RawEqual = refl
picks RawGet = refl
picks RawSet = refl
picks Require = refl
picks Select = refl
picks SetMetatable = refl
picks ToNumber = refl
picks ToString = refl
picks TypeName = refl
picks Unpack = refl
picks StringByte = refl
picks StringChar = refl
picks StringFind = refl
picks StringFormat = refl
picks StringLen = refl
picks StringLower = refl
picks StringRep = refl
picks StringReverse = refl
picks StringSub = refl
picks StringUpper = refl
picks TableConcat = refl
picks TableInsert = refl
picks TableMaxn = refl
picks TableRemove = refl
picks TableSort = refl
picks MathAbs = refl
picks MathCeil = refl
picks MathFloor = refl
picks MathFmod = refl
picks MathMax = refl
picks MathMin = refl
picks MathPow = refl
picks LoveThreadGetChannel = refl
picks LoveThreadNewChannel = refl
picks LoveThreadNewThread = refl
picks LoveDataNewByteData = refl
picks LoveDataNewDataView = refl
picks LoveFilesystemNewFileData = refl
picks LoveFilesystemRead = refl
picks LoveEventClear = refl
picks LoveEventPoll = refl
picks LoveEventPump = refl
picks LoveEventPush = refl
picks LoveEventQuit = refl
picks ChannelClear = refl
picks ChannelDemand = refl
picks ChannelGetCount = refl
picks ChannelHasRead = refl
picks ChannelPeek = refl
picks ChannelPerformAtomic = refl
picks ChannelPop = refl
picks ChannelPush = refl
picks ChannelSupply = refl
picks ThreadGetError = refl
picks ThreadIsRunning = refl
picks ThreadStart = refl
picks ThreadWait = refl
picks DataGetFilename = refl
picks DataGetSize = refl
picks DataGetString = refl
picks ObjectType = refl
picks ObjectTypeOf = refl
picks IpairsWalk = refl
picks PollWalk = refl

both_true : (a b : Bool) → (a && b) ≡ true → (a ≡ true) × (b ≡ true)
both_true true true e = (refl, refl)
both_true true false e = cc
both_true false b e = cc

-- functions that the definitions call the same are
pub same_native-view : (f g : Native) → same_native (native_view f) (native_view g) ≡ true → f ≡ g
same_native-view f g e =
    let both = both_true _ _ e in
    let at : shelf_number (shelf (native_view f)) ≡ shelf_number (shelf (native_view g)) = (Decides-eqb _ _).0 both.0 in
    let key : name (native_view f) ≡ name (native_view g) = (bytes_eq-Decides _ _).0 both.1 in
    same_Some f g (sym (picks f) ∙ ap (λ n. picked n (name (native_view f)) every) at ∙ ap (λ k. picked (shelf_number (shelf (native_view g))) k every) key ∙ picks g)

pub same_native-same : (f : Native) → same_native (native_view f) (native_view f) ≡ true
same_native-same f =
    let at = shelf_number (shelf (native_view f)) in
    let key = name (native_view f) in
    both (nat_eq at at) (bytes_eq key key) ((Decides-eqb at at).1 refl) ((bytes_eq-Decides key key).1 refl)
  where
    both : (a b : Bool) → a ≡ true → b ≡ true → (a && b) ≡ true
    both true b p q = q
    both false b p q = cc
