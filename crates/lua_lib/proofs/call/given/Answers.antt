use Rattle.std.proofs.Common.{refl}
use Rattle.lua_meaning.specs.Library.{library}
use Rattle.lua_meaning.specs.Native as natives
use Rattle.lua_meaning.specs.Value as meant
use Rattle.lua_heap.specs.declared.native.Native.TheVariants as variant
use Rattle.lua_heap.specs.Native.{native_view}
use Rattle.lua_heap.specs.Heap.{store_of}
use Rattle.lua_lib.specs.Causes.{values_of}
use Rattle.lua_lib.proofs.Calling.{called-same, called-by, walk-from}
use Rattle.lua_lib.proofs.Running.{comes-runs}
use Rattle.lua_lib.proofs.call.given.Goals as goal

pub returns-in-CollectGarbage : goal.returns-in-CollectGarbage
returns-in-CollectGarbage c =
    let h = c.args.heap.now in
    let vs = values_of h c.args.args.now in
    called-by _ _ _ _ variant.CollectGarbage vs _ c.in-CollectGarbage.is (called-same _ h _ _ (c.number.ensures.calls h h (library (native_view variant.CollectGarbage) vs) (c.collectgarbage.ensures vs (store_of h))) (c.number.ensures.made h))

pub returns-in-Ipairs : goal.returns-in-Ipairs
returns-in-Ipairs c =
    let h = c.args.heap.now in
    let vs = values_of h c.args.args.now in
    called-by _ _ _ _ variant.Ipairs vs _ c.in-Ipairs.is (called-same _ h _ _ (c.walk.ensures.calls h h (library (native_view variant.Ipairs) vs) (walk-from h (meant.native natives.ipairs_walk) (library (native_view variant.Ipairs) vs) _ c.zero.result c.zero.ensures (comes-runs _ h (library (native_view variant.Ipairs) vs) _ c.ipairs.ensures.given))) (c.walk.ensures.made h c.ipairs.ensures.made tt))

pub returns-in-IpairsWalk : goal.returns-in-IpairsWalk
returns-in-IpairsWalk c =
    let h = c.args.heap.now in
    let vs = values_of h c.args.args.now in
    called-by _ _ _ _ variant.IpairsWalk vs _ c.in-IpairsWalk.is (called-same _ h _ _ (c.pair.ensures.calls h h (library (native_view variant.IpairsWalk) vs) c.walk_positions.ensures.runs) (c.pair.ensures.made h c.walk_positions.ensures.made))

pub returns-in-Next : goal.returns-in-Next
returns-in-Next c =
    let h = c.args.heap.now in
    let vs = values_of h c.args.args.now in
    called-by _ _ _ _ variant.Next vs _ c.in-Next.is (called-same _ h _ _ (c.pair_or_one.ensures.calls h h (library (native_view variant.Next) vs) c.next.ensures.runs) (c.pair_or_one.ensures.made h c.next.ensures.made))

pub returns-in-Pairs : goal.returns-in-Pairs
returns-in-Pairs c =
    let h = c.args.heap.now in
    let vs = values_of h c.args.args.now in
    called-by _ _ _ _ variant.Pairs vs _ c.in-Pairs.is (called-same _ h _ _ (c.walk-in-Pairs.ensures.calls h h (library (native_view variant.Pairs) vs) (comes-runs _ h (library (native_view variant.Pairs) vs) _ c.pairs.ensures.given)) (c.walk-in-Pairs.ensures.made h c.pairs.ensures.made tt))

pub returns-in-RawEqual : goal.returns-in-RawEqual
returns-in-RawEqual c =
    let h = c.args.heap.now in
    let vs = values_of h c.args.args.now in
    called-by _ _ _ _ variant.RawEqual vs _ c.in-RawEqual.is (called-same _ h _ _ (c.flag.ensures.calls h h (library (native_view variant.RawEqual) vs) (c.rawequal.ensures (store_of h))) (c.flag.ensures.made h))

pub returns-in-RawGet : goal.returns-in-RawGet
returns-in-RawGet c =
    let h = c.args.heap.now in
    let vs = values_of h c.args.args.now in
    called-by _ _ _ _ variant.RawGet vs _ c.in-RawGet.is (called-same _ h _ _ (c.one-in-RawGet.ensures.calls h h (library (native_view variant.RawGet) vs) c.rawget.ensures.runs) (c.one-in-RawGet.ensures.made h c.rawget.ensures.made))

pub returns-in-RawSet : goal.returns-in-RawSet
returns-in-RawSet c =
    let h = c.args.heap.now in
    let vs = values_of h c.args.args.now in
    called-by _ _ _ _ variant.RawSet vs _ c.in-RawSet.is (record { calls = c.table.ensures.calls h c.rawset.new.heap (library (native_view variant.RawSet) vs) c.rawset.ensures.runs; made = c.table.ensures.made c.rawset.new.heap c.rawset.ensures.made; extends = c.rawset.ensures.extends; functions = c.rawset.ensures.functions })

pub returns-in-TypeName : goal.returns-in-TypeName
returns-in-TypeName c =
    let h = c.args.heap.now in
    let vs = values_of h c.args.args.now in
    called-by _ _ _ _ variant.TypeName vs _ c.in-TypeName.is (record { calls = c.text.ensures.calls (library (native_view variant.TypeName) vs) (c.type_of.ensures h.texts (store_of h)); made = c.text.ensures.made; extends = c.text.ensures.extends; functions = c.text.ensures.functions })

pub returns-in-StringLen : goal.returns-in-StringLen
returns-in-StringLen c =
    let h = c.args.heap.now in
    let vs = values_of h c.args.args.now in
    called-by _ _ _ _ variant.StringLen vs _ c.in-StringLen.is (called-same _ h _ _ (c.number-in-StringLen.ensures.calls h h (library (native_view variant.StringLen) vs) (comes-runs _ h (library (native_view variant.StringLen) vs) _ c.len.ensures)) (c.number-in-StringLen.ensures.made h))

pub returns-in-StringLower : goal.returns-in-StringLower
returns-in-StringLower c =
    let h = c.args.heap.now in
    let vs = values_of h c.args.args.now in
    called-by _ _ _ _ variant.StringLower vs _ c.in-StringLower.is (record { calls = c.made_text-in-StringLower.ensures.calls (library (native_view variant.StringLower) vs) (comes-runs _ h (library (native_view variant.StringLower) vs) _ c.lower.ensures); made = c.made_text-in-StringLower.ensures.made; extends = c.made_text-in-StringLower.ensures.extends; functions = c.made_text-in-StringLower.ensures.functions })

pub returns-in-StringRep : goal.returns-in-StringRep
returns-in-StringRep c =
    let h = c.args.heap.now in
    let vs = values_of h c.args.args.now in
    called-by _ _ _ _ variant.StringRep vs _ c.in-StringRep.is (record { calls = c.made_text-in-StringRep.ensures.calls (library (native_view variant.StringRep) vs) (comes-runs _ h (library (native_view variant.StringRep) vs) _ c.rep.ensures); made = c.made_text-in-StringRep.ensures.made; extends = c.made_text-in-StringRep.ensures.extends; functions = c.made_text-in-StringRep.ensures.functions })

pub returns-in-StringReverse : goal.returns-in-StringReverse
returns-in-StringReverse c =
    let h = c.args.heap.now in
    let vs = values_of h c.args.args.now in
    called-by _ _ _ _ variant.StringReverse vs _ c.in-StringReverse.is (record { calls = c.made_text-in-StringReverse.ensures.calls (library (native_view variant.StringReverse) vs) (comes-runs _ h (library (native_view variant.StringReverse) vs) _ c.reverse.ensures); made = c.made_text-in-StringReverse.ensures.made; extends = c.made_text-in-StringReverse.ensures.extends; functions = c.made_text-in-StringReverse.ensures.functions })

pub returns-in-StringSub : goal.returns-in-StringSub
returns-in-StringSub c =
    let h = c.args.heap.now in
    let vs = values_of h c.args.args.now in
    called-by _ _ _ _ variant.StringSub vs _ c.in-StringSub.is (record { calls = c.made_text-in-StringSub.ensures.calls (library (native_view variant.StringSub) vs) (comes-runs _ h (library (native_view variant.StringSub) vs) _ c.sub.ensures); made = c.made_text-in-StringSub.ensures.made; extends = c.made_text-in-StringSub.ensures.extends; functions = c.made_text-in-StringSub.ensures.functions })

pub returns-in-StringUpper : goal.returns-in-StringUpper
returns-in-StringUpper c =
    let h = c.args.heap.now in
    let vs = values_of h c.args.args.now in
    called-by _ _ _ _ variant.StringUpper vs _ c.in-StringUpper.is (record { calls = c.made_text-in-StringUpper.ensures.calls (library (native_view variant.StringUpper) vs) (comes-runs _ h (library (native_view variant.StringUpper) vs) _ c.upper.ensures); made = c.made_text-in-StringUpper.ensures.made; extends = c.made_text-in-StringUpper.ensures.extends; functions = c.made_text-in-StringUpper.ensures.functions })

pub returns-in-MathAbs : goal.returns-in-MathAbs
returns-in-MathAbs c =
    let h = c.args.heap.now in
    let vs = values_of h c.args.args.now in
    called-by _ _ _ _ variant.MathAbs vs _ c.in-MathAbs.is (called-same _ h _ _ (c.number-in-MathAbs.ensures.calls h h (library (native_view variant.MathAbs) vs) (comes-runs _ h (library (native_view variant.MathAbs) vs) _ c.abs.ensures)) (c.number-in-MathAbs.ensures.made h))

pub returns-in-MathCeil : goal.returns-in-MathCeil
returns-in-MathCeil c =
    let h = c.args.heap.now in
    let vs = values_of h c.args.args.now in
    called-by _ _ _ _ variant.MathCeil vs _ c.in-MathCeil.is (called-same _ h _ _ (c.number-in-MathCeil.ensures.calls h h (library (native_view variant.MathCeil) vs) (comes-runs _ h (library (native_view variant.MathCeil) vs) _ c.whole.ensures)) (c.number-in-MathCeil.ensures.made h))

pub returns-in-MathFloor : goal.returns-in-MathFloor
returns-in-MathFloor c =
    let h = c.args.heap.now in
    let vs = values_of h c.args.args.now in
    called-by _ _ _ _ variant.MathFloor vs _ c.in-MathFloor.is (called-same _ h _ _ (c.number-in-MathFloor.ensures.calls h h (library (native_view variant.MathFloor) vs) (comes-runs _ h (library (native_view variant.MathFloor) vs) _ c.whole-in-MathFloor.ensures)) (c.number-in-MathFloor.ensures.made h))

pub returns-in-MathFmod : goal.returns-in-MathFmod
returns-in-MathFmod c =
    let h = c.args.heap.now in
    let vs = values_of h c.args.args.now in
    called-by _ _ _ _ variant.MathFmod vs _ c.in-MathFmod.is (called-same _ h _ _ (c.number-in-MathFmod.ensures.calls h h (library (native_view variant.MathFmod) vs) (comes-runs _ h (library (native_view variant.MathFmod) vs) _ c.fmod.ensures)) (c.number-in-MathFmod.ensures.made h))

pub returns-in-MathMax : goal.returns-in-MathMax
returns-in-MathMax c =
    let h = c.args.heap.now in
    let vs = values_of h c.args.args.now in
    called-by _ _ _ _ variant.MathMax vs _ c.in-MathMax.is (called-same _ h _ _ (c.number-in-MathMax.ensures.calls h h (library (native_view variant.MathMax) vs) (comes-runs _ h (library (native_view variant.MathMax) vs) _ c.max.ensures)) (c.number-in-MathMax.ensures.made h))

pub returns-in-MathMin : goal.returns-in-MathMin
returns-in-MathMin c =
    let h = c.args.heap.now in
    let vs = values_of h c.args.args.now in
    called-by _ _ _ _ variant.MathMin vs _ c.in-MathMin.is (called-same _ h _ _ (c.number-in-MathMin.ensures.calls h h (library (native_view variant.MathMin) vs) (comes-runs _ h (library (native_view variant.MathMin) vs) _ c.min.ensures)) (c.number-in-MathMin.ensures.made h))

pub returns-in-MathPow : goal.returns-in-MathPow
returns-in-MathPow c =
    let h = c.args.heap.now in
    let vs = values_of h c.args.args.now in
    called-by _ _ _ _ variant.MathPow vs _ c.in-MathPow.is (called-same _ h _ _ (c.number-in-MathPow.ensures.calls h h (library (native_view variant.MathPow) vs) (comes-runs _ h (library (native_view variant.MathPow) vs) _ c.pow.ensures)) (c.number-in-MathPow.ensures.made h))

pub returns-in-LoveEventPump : goal.returns-in-LoveEventPump
returns-in-LoveEventPump c =
    let h = c.args.heap.now in
    let vs = values_of h c.args.args.now in
    called-by _ _ _ _ variant.LoveEventPump vs _ c.in-LoveEventPump.is (called-same _ h _ _ (c.some.ensures.calls h h (library (native_view variant.LoveEventPump) vs) refl) (c.some.ensures.made h tt))

pub returns-in-DataGetSize : goal.returns-in-DataGetSize
returns-in-DataGetSize c =
    let h = c.args.heap.now in
    let vs = values_of h c.args.args.now in
    called-by _ _ _ _ variant.DataGetSize vs _ c.in-DataGetSize.is (called-same _ h _ _ (c.number-in-DataGetSize.ensures.calls h h (library (native_view variant.DataGetSize) vs) c.get_size.ensures) (c.number-in-DataGetSize.ensures.made h))

pub returns-in-DataGetString : goal.returns-in-DataGetString
returns-in-DataGetString c =
    let h = c.args.heap.now in
    let vs = values_of h c.args.args.now in
    called-by _ _ _ _ variant.DataGetString vs _ c.in-DataGetString.is (record { calls = c.made_text-in-DataGetString.ensures.calls (library (native_view variant.DataGetString) vs) c.get_string.ensures; made = c.made_text-in-DataGetString.ensures.made; extends = c.made_text-in-DataGetString.ensures.extends; functions = c.made_text-in-DataGetString.ensures.functions })

pub returns-in-ObjectTypeOf : goal.returns-in-ObjectTypeOf
returns-in-ObjectTypeOf c =
    let h = c.args.heap.now in
    let vs = values_of h c.args.args.now in
    called-by _ _ _ _ variant.ObjectTypeOf vs _ c.in-ObjectTypeOf.is (called-same _ h _ _ (c.flag-in-ObjectTypeOf.ensures.calls h h (library (native_view variant.ObjectTypeOf) vs) c.type_of-in-ObjectTypeOf.ensures) (c.flag-in-ObjectTypeOf.ensures.made h))

pub returns-in-ObjectType : goal.returns-in-ObjectType
returns-in-ObjectType c =
    called-by _ _ _ _ variant.ObjectType (values_of c.args.heap.now c.args.args.now) _ c.in-ObjectType.is c.object_type.ensures

pub returns-in-Assert : goal.returns-in-Assert
returns-in-Assert c =
    let h = c.args.heap.now in
    let vs = values_of h c.args.args.now in
    called-by _ _ _ _ variant.Assert vs _ c.in-Assert.is (called-same _ h _ _ (c.values.ensures.calls h h (library (native_view variant.Assert) vs) (comes-runs _ h (library (native_view variant.Assert) vs) _ c.assert.ensures.given)) (c.values.ensures.made h c.assert.ensures.made))

pub returns-in-Select : goal.returns-in-Select
returns-in-Select c =
    let h = c.args.heap.now in
    let vs = values_of h c.args.args.now in
    called-by _ _ _ _ variant.Select vs _ c.in-Select.is (called-same _ h _ _ (c.values-in-Select.ensures.calls h h (library (native_view variant.Select) vs) (comes-runs _ h (library (native_view variant.Select) vs) _ c.select.ensures.given)) (c.values-in-Select.ensures.made h c.select.ensures.made))

pub returns-in-StringByte : goal.returns-in-StringByte
returns-in-StringByte c =
    let h = c.args.heap.now in
    let vs = values_of h c.args.args.now in
    called-by _ _ _ _ variant.StringByte vs _ c.in-StringByte.is (called-same _ h _ _ (c.values-in-StringByte.ensures.calls h h (library (native_view variant.StringByte) vs) (comes-runs _ h (library (native_view variant.StringByte) vs) _ c.byte.ensures.given)) (c.values-in-StringByte.ensures.made h c.byte.ensures.made))

pub returns-in-Unpack : goal.returns-in-Unpack
returns-in-Unpack c =
    let h = c.args.heap.now in
    let vs = values_of h c.args.args.now in
    called-by _ _ _ _ variant.Unpack vs _ c.in-Unpack.is (called-same _ h _ _ (c.values-in-Unpack.ensures.calls h h (library (native_view variant.Unpack) vs) c.unpack.ensures.runs) (c.values-in-Unpack.ensures.made h c.unpack.ensures.made))

pub returns-in-ToNumber : goal.returns-in-ToNumber
returns-in-ToNumber c =
    let h = c.args.heap.now in
    let vs = values_of h c.args.args.now in
    called-by _ _ _ _ variant.ToNumber vs _ c.in-ToNumber.is (called-same _ h _ _ (c.number_or_nil.ensures.calls h h (library (native_view variant.ToNumber) vs) (comes-runs _ h (library (native_view variant.ToNumber) vs) _ c.tonumber.ensures)) (c.number_or_nil.ensures.made h))

pub returns-in-StringFind : goal.returns-in-StringFind
returns-in-StringFind c =
    let h = c.args.heap.now in
    let vs = values_of h c.args.args.now in
    called-by _ _ _ _ variant.StringFind vs _ c.in-StringFind.is (called-same _ h _ _ (c.places.ensures.calls h h (library (native_view variant.StringFind) vs) (comes-runs _ h (library (native_view variant.StringFind) vs) _ c.find.ensures)) (c.places.ensures.made h))

pub returns-in-StringChar : goal.returns-in-StringChar
returns-in-StringChar c =
    let h = c.args.heap.now in
    let vs = values_of h c.args.args.now in
    called-by _ _ _ _ variant.StringChar vs _ c.in-StringChar.is (record { calls = c.made_text.ensures.calls (library (native_view variant.StringChar) vs) (comes-runs _ h (library (native_view variant.StringChar) vs) _ c.char.ensures); made = c.made_text.ensures.made; extends = c.made_text.ensures.extends; functions = c.made_text.ensures.functions })

pub returns-in-GetMetatable : goal.returns-in-GetMetatable
returns-in-GetMetatable c =
    let h = c.args.heap.now in
    let vs = values_of h c.args.args.now in
    called-by _ _ _ _ variant.GetMetatable vs _ c.in-GetMetatable.is (record { calls = c.one.ensures.calls h c.getmetatable.new.heap (library (native_view variant.GetMetatable) vs) c.getmetatable.ensures.runs; made = c.one.ensures.made c.getmetatable.new.heap c.getmetatable.ensures.made; extends = c.getmetatable.ensures.extends; functions = c.getmetatable.ensures.functions })

pub returns-in-SetMetatable : goal.returns-in-SetMetatable
returns-in-SetMetatable c =
    let h = c.args.heap.now in
    let vs = values_of h c.args.args.now in
    called-by _ _ _ _ variant.SetMetatable vs _ c.in-SetMetatable.is (record { calls = c.table-in-SetMetatable.ensures.calls h c.setmetatable.new.heap (library (native_view variant.SetMetatable) vs) c.setmetatable.ensures.runs; made = c.table-in-SetMetatable.ensures.made c.setmetatable.new.heap c.setmetatable.ensures.made; extends = c.setmetatable.ensures.extends; functions = c.setmetatable.ensures.functions })

pub returns-in-StringFormat : goal.returns-in-StringFormat
returns-in-StringFormat c =
    let h = c.args.heap.now in
    let vs = values_of h c.args.args.now in
    called-by _ _ _ _ variant.StringFormat vs _ c.in-StringFormat.is (record { calls = c.made_text-in-StringFormat.ensures.calls (library (native_view variant.StringFormat) vs) (comes-runs _ h (library (native_view variant.StringFormat) vs) _ c.format.ensures); made = c.made_text-in-StringFormat.ensures.made; extends = c.made_text-in-StringFormat.ensures.extends; functions = c.made_text-in-StringFormat.ensures.functions })

pub returns-in-TableConcat : goal.returns-in-TableConcat
returns-in-TableConcat c =
    let h = c.args.heap.now in
    let vs = values_of h c.args.args.now in
    called-by _ _ _ _ variant.TableConcat vs _ c.in-TableConcat.is (record { calls = c.made_text-in-TableConcat.ensures.calls (library (native_view variant.TableConcat) vs) c.concat.ensures; made = c.made_text-in-TableConcat.ensures.made; extends = c.made_text-in-TableConcat.ensures.extends; functions = c.made_text-in-TableConcat.ensures.functions })

pub returns-in-TableInsert : goal.returns-in-TableInsert
returns-in-TableInsert c =
    let h = c.args.heap.now in
    let vs = values_of h c.args.args.now in
    called-by _ _ _ _ variant.TableInsert vs _ c.in-TableInsert.is (record { calls = c.nothing.ensures.calls h c.insert.new.heap (library (native_view variant.TableInsert) vs) c.insert.ensures.runs; made = c.nothing.ensures.made c.insert.new.heap; extends = c.insert.ensures.extends; functions = c.insert.ensures.functions })

pub returns-in-TableMaxn : goal.returns-in-TableMaxn
returns-in-TableMaxn c =
    let h = c.args.heap.now in
    let vs = values_of h c.args.args.now in
    called-by _ _ _ _ variant.TableMaxn vs _ c.in-TableMaxn.is (called-same _ h _ _ (c.number-in-TableMaxn.ensures.calls h h (library (native_view variant.TableMaxn) vs) c.maxn.ensures) (c.number-in-TableMaxn.ensures.made h))

pub returns-in-TableSort : goal.returns-in-TableSort
returns-in-TableSort c =
    let h = c.args.heap.now in
    let vs = values_of h c.args.args.now in
    called-by _ _ _ _ variant.TableSort vs _ c.in-TableSort.is (record { calls = c.nothing-in-TableSort.ensures.calls h c.sort.new.heap (library (native_view variant.TableSort) vs) c.sort.ensures.runs; made = c.nothing-in-TableSort.ensures.made c.sort.new.heap; extends = c.sort.ensures.extends; functions = c.sort.ensures.functions })

pub returns-in-TableRemove : goal.returns-in-TableRemove
returns-in-TableRemove c =
    let h = c.args.heap.now in
    let vs = values_of h c.args.args.now in
    called-by _ _ _ _ variant.TableRemove vs _ c.in-TableRemove.is (record { calls = c.one_or_none.ensures.calls h c.remove.new.heap (library (native_view variant.TableRemove) vs) c.remove.ensures.runs; made = c.one_or_none.ensures.made c.remove.new.heap c.remove.ensures.made; extends = c.remove.ensures.extends; functions = c.remove.ensures.functions })

pub returns-in-LoveDataNewDataView : goal.returns-in-LoveDataNewDataView
returns-in-LoveDataNewDataView c =
    let h = c.args.heap.now in
    let vs = values_of h c.args.args.now in
    called-by _ _ _ _ variant.LoveDataNewDataView vs _ c.in-LoveDataNewDataView.is (record { calls = c.datum-in-LoveDataNewDataView.ensures.calls h c.new_data_view.new.heap (library (native_view variant.LoveDataNewDataView) vs) c.new_data_view.ensures.runs; made = c.datum-in-LoveDataNewDataView.ensures.made c.new_data_view.new.heap c.new_data_view.ensures.made; extends = c.new_data_view.ensures.extends; functions = c.new_data_view.ensures.functions })

pub returns-in-LoveDataNewByteData : goal.returns-in-LoveDataNewByteData
returns-in-LoveDataNewByteData c =
    let h = c.args.heap.now in
    let vs = values_of h c.args.args.now in
    called-by _ _ _ _ variant.LoveDataNewByteData vs _ c.in-LoveDataNewByteData.is (record { calls = c.datum.ensures.calls h c.new_byte_data.new.heap (library (native_view variant.LoveDataNewByteData) vs) c.new_byte_data.ensures.runs; made = c.datum.ensures.made c.new_byte_data.new.heap c.new_byte_data.ensures.made; extends = c.new_byte_data.ensures.extends; functions = c.new_byte_data.ensures.functions })

pub returns-in-DataGetFilename : goal.returns-in-DataGetFilename
returns-in-DataGetFilename c =
    let h = c.args.heap.now in
    let vs = values_of h c.args.args.now in
    called-by _ _ _ _ variant.DataGetFilename vs _ c.in-DataGetFilename.is (record { calls = c.made_text-in-DataGetFilename.ensures.calls (library (native_view variant.DataGetFilename) vs) c.get_filename.ensures; made = c.made_text-in-DataGetFilename.ensures.made; extends = c.made_text-in-DataGetFilename.ensures.extends; functions = c.made_text-in-DataGetFilename.ensures.functions })
