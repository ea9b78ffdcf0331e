-- What a handle owns: nothing if it is null, or a block of the heap.
use base.Fml.{Fml, ftrue}
use mir.Syntax.{Ty}
use denote.RawPtr.{Ptr, null_ptr, block_ptr}
use Rattle.std_heap.specs.declared.Global.{Global}
use Rattle.std_heap.specs.contracts.GlobalAllocator.TheImpl.{ghosts}

-- the allocator of all handles, which is the heap of the program
abbrev pub heap : Global
heap = record { memory = record { seal = tt } }

-- the right to free what lies, with this type, at a pointer to the heap
abbrev pub freed : Ty → Ptr → Fml
freed = ghosts.dealloc_token heap

-- what is owned at a pointer: nothing at null, and elsewhere what `owned` says
abbrev pub owned_at : (Ptr → Fml) → Ptr → Fml
owned_at owned null_ptr = ftrue
owned_at owned (block_ptr b o) = owned (block_ptr b o)
