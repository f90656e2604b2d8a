-- The definitions of decoding, encoding, expanding and text beside the outside vectors: rows that outside tools listed.
-- A fixed rule chose them, in the order of the outside lists.
-- Words: the first five of each mnemonic; of those that are no instruction, the first three of each opcode (the low seven bits).
-- Halfwords: the first of each mnemonic with the same low two and high four bits, and the 7th of the list and every 43rd after it.
-- Halfwords that are not in the list, so no instruction: the first three with the same low two and high four bits, and the 7th and every 101st after it.
-- The outside words have no ecall and no ebreak; a halfword has ebreak.
use Rattle.std.specs.Prelude.{◌≡◌, List, [], ◌∷◌, map, ℕ, None, Option, Some}
use Prim.Native.String.{String}
use Rattle.ascii.specs.Ascii.{bytes}
use Rattle.isa.specs.Decoding.{decoded}
use Rattle.isa.specs.Encoding.{encoded}
use Rattle.isa.specs.Rvc.{expanded}
use Rattle.text.specs.Text.{text_of}
use Rattle.isa.specs.declared.Inst.{Inst}

-- 32 bits and their text
abbrev pub Word : Type 0
Word = ℕ × String

-- 16 bits, the word of the instruction that they stand for, and its text
abbrev pub Half : Type 0
Half = ℕ × ℕ × String

-- ---- words, by their operations

abbrev uppers : List Word
uppers =
    (0x40c4feb7, "lui x29,265295") ∷ (0xb457c237, "lui x4,738684") ∷ (0xcb5ba337, "lui x6,832954") ∷ (0xf9071bb7, "lui x23,1020017")
    ∷ (0x02a456b7, "lui x13,10821") ∷ (0xe38e4997, "auipc x19,932068") ∷ (0x02989817, "auipc x16,10633") ∷ (0x2ca3c097, "auipc x1,182844")
    ∷ (0xbc3e9997, "auipc x19,771049") ∷ (0x030bb397, "auipc x7,12475") ∷ []

abbrev jumps : List Word
jumps =
    (0x0304e4ef, "jal x9,319536") ∷ (0x02515aef, "jal x21,88100") ∷ (0x507c236f, "jal x6,797958") ∷ (0x03e2d6ef, "jal x13,184382")
    ∷ (0xe986acef, "jal x25,-612712") ∷ (0x8c0c0b67, "jalr x22,-1856(x24)") ∷ (0xbe4c0fe7, "jalr x31,-1052(x24)") ∷ (0x00928fe7, "jalr x31,9(x5)")
    ∷ (0x55e708e7, "jalr x17,1374(x14)") ∷ (0x009e02e7, "jalr x5,9(x28)") ∷ []

abbrev branches : List Word
branches =
    (0x03b108e3, "beq x2,x27,2096") ∷ (0x02c287e3, "beq x5,x12,2094") ∷ (0x008e09e3, "beq x28,x8,2066") ∷ (0x80f784e3, "beq x15,x15,-2040")
    ∷ (0x05b30d63, "beq x6,x27,90") ∷ (0x020697e3, "bne x13,x0,2094") ∷ (0xb1721463, "bne x4,x23,-3320") ∷ (0x034613e3, "bne x12,x20,2086")
    ∷ (0x02f09263, "bne x1,x15,36") ∷ (0x9c879563, "bne x15,x8,-3638") ∷ (0xbd544763, "blt x8,x21,-3122") ∷ (0x02dbcbe3, "blt x23,x13,2102")
    ∷ (0x927e4263, "blt x28,x7,-3804") ∷ (0x415248e3, "blt x4,x21,3088") ∷ (0x02d548e3, "blt x10,x13,2096") ∷ (0x36ddd463, "bge x27,x13,872")
    ∷ (0x0375d463, "bge x11,x23,40") ∷ (0x02e25fe3, "bge x4,x14,2110") ∷ (0x2cfd54e3, "bge x26,x15,2760") ∷ (0x9594d663, "bge x9,x25,-3764")
    ∷ (0xcaf06063, "bltu x0,x15,-2912") ∷ (0x02b76ae3, "bltu x14,x11,2100") ∷ (0x59046763, "bltu x8,x16,1422") ∷ (0x2701e563, "bltu x3,x16,618")
    ∷ (0x72f261e3, "bltu x4,x15,3874") ∷ (0x4095f6e3, "bgeu x11,x9,3084") ∷ (0x3fc3f463, "bgeu x7,x28,1000") ∷ (0x0ffff863, "bgeu x31,x31,240")
    ∷ (0x03037363, "bgeu x6,x16,38") ∷ (0x7cba75e3, "bgeu x20,x11,4042") ∷ []

abbrev loads : List Word
loads =
    (0x88eb8a03, "lb x20,-1906(x23)") ∷ (0x02e88a03, "lb x20,46(x17)") ∷ (0x40b58903, "lb x18,1035(x11)") ∷ (0x035b0c03, "lb x24,53(x22)")
    ∷ (0x03aa8c03, "lb x24,58(x21)") ∷ (0x00c99903, "lh x18,12(x19)") ∷ (0x00a71103, "lh x2,10(x14)") ∷ (0xc0ab9103, "lh x2,-1014(x23)")
    ∷ (0x412e9603, "lh x12,1042(x29)") ∷ (0x00d31c03, "lh x24,13(x6)") ∷ (0x35f9a983, "lw x19,863(x19)") ∷ (0x01d72b83, "lw x23,29(x14)")
    ∷ (0x01292c83, "lw x25,18(x18)") ∷ (0xf32f2083, "lw x1,-206(x30)") ∷ (0xa0b22203, "lw x4,-1525(x4)") ∷ (0x9816c083, "lbu x1,-1663(x13)")
    ∷ (0xc04bc103, "lbu x2,-1020(x23)") ∷ (0x410bcb03, "lbu x22,1040(x23)") ∷ (0x414ec483, "lbu x9,1044(x29)") ∷ (0x4189cb83, "lbu x23,1048(x19)")
    ∷ (0x03f35483, "lhu x9,63(x6)") ∷ (0x98aed303, "lhu x6,-1654(x29)") ∷ (0x01b45403, "lhu x8,27(x8)") ∷ (0xa757dd03, "lhu x26,-1419(x15)")
    ∷ (0x0012dc03, "lhu x24,1(x5)") ∷ []

abbrev stores : List Word
stores =
    (0x006f8023, "sb x6,0(x31)") ∷ (0x02b28fa3, "sb x11,63(x5)") ∷ (0xd4730923, "sb x7,-686(x6)") ∷ (0x403602a3, "sb x3,1029(x12)")
    ∷ (0x8b188d23, "sb x17,-1862(x17)") ∷ (0x007e17a3, "sh x7,15(x28)") ∷ (0xe29b1423, "sh x9,-472(x22)") ∷ (0x659a91a3, "sh x25,1603(x21)")
    ∷ (0x75ff1ca3, "sh x31,1881(x30)") ∷ (0x230e9523, "sh x16,554(x29)") ∷ (0x40ba2123, "sw x11,1026(x20)") ∷ (0x0033ada3, "sw x3,27(x7)")
    ∷ (0x00872a23, "sw x8,20(x14)") ∷ (0xa559ac23, "sw x21,-1448(x19)") ∷ (0x02f323a3, "sw x15,39(x6)") ∷ []

abbrev immediates : List Word
immediates =
    (0x6c2e0913, "addi x18,x28,1730") ∷ (0xe63f0813, "addi x16,x30,-413") ∷ (0x4eca0613, "addi x12,x20,1260") ∷ (0x41ec8893, "addi x17,x25,1054")
    ∷ (0xf6018993, "addi x19,x3,-160") ∷ (0x990a2093, "slti x1,x20,-1648") ∷ (0x93242e13, "slti x28,x8,-1742") ∷ (0x0336a193, "slti x3,x13,51")
    ∷ (0xddfba813, "slti x16,x23,-545") ∷ (0x03552393, "slti x7,x10,53") ∷ (0x601dba13, "sltiu x20,x27,1537") ∷ (0x4124ba93, "sltiu x21,x9,1042")
    ∷ (0x62153693, "sltiu x13,x10,1569") ∷ (0x00af3d13, "sltiu x26,x30,10") ∷ (0x4175b893, "sltiu x17,x11,1047") ∷ (0x2709c593, "xori x11,x19,624")
    ∷ (0x96514b93, "xori x23,x2,-1691") ∷ (0x02e8c493, "xori x9,x17,46") ∷ (0xcd6ecb13, "xori x22,x29,-810") ∷ (0x32b1c013, "xori x0,x3,811")
    ∷ (0x0390e413, "ori x8,x1,57") ∷ (0x03d36b93, "ori x23,x6,61") ∷ (0x00e36b13, "ori x22,x6,14") ∷ (0x03a9e513, "ori x10,x19,58")
    ∷ (0x9e82e193, "ori x3,x5,-1560") ∷ (0x40d17393, "andi x7,x2,1037") ∷ (0x00057013, "andi x0,x10,0") ∷ (0xb4fbf113, "andi x2,x23,-1201")
    ∷ (0x03747813, "andi x16,x8,55") ∷ (0x8649f393, "andi x7,x19,-1948") ∷ (0x01951913, "slli x18,x10,25") ∷ (0x01cf9a13, "slli x20,x31,28")
    ∷ (0x00b59893, "slli x17,x11,11") ∷ (0x00769913, "slli x18,x13,7") ∷ (0x01579113, "slli x2,x15,21") ∷ (0x01d4d493, "srli x9,x9,29")
    ∷ (0x01e0de13, "srli x28,x1,30") ∷ (0x0165d793, "srli x15,x11,22") ∷ (0x0016d893, "srli x17,x13,1") ∷ (0x016d5493, "srli x9,x26,22")
    ∷ (0x40af5893, "srai x17,x30,10") ∷ (0x4014de13, "srai x28,x9,1") ∷ (0x41c55e13, "srai x28,x10,28") ∷ (0x41f35d13, "srai x26,x6,31")
    ∷ (0x40015993, "srai x19,x2,0") ∷ []

abbrev registers : List Word
registers =
    (0x014408b3, "add x17,x8,x20") ∷ (0x00cf8ab3, "add x21,x31,x12") ∷ (0x01f48d33, "add x26,x9,x31") ∷ (0x00520bb3, "add x23,x4,x5")
    ∷ (0x00860e33, "add x28,x12,x8") ∷ (0x41530e33, "sub x28,x6,x21") ∷ (0x41428a33, "sub x20,x5,x20") ∷ (0x41788bb3, "sub x23,x17,x23")
    ∷ (0x40d48cb3, "sub x25,x9,x13") ∷ (0x40f00533, "sub x10,x0,x15") ∷ (0x018212b3, "sll x5,x4,x24") ∷ (0x00ee13b3, "sll x7,x28,x14")
    ∷ (0x00b798b3, "sll x17,x15,x11") ∷ (0x01731f33, "sll x30,x6,x23") ∷ (0x010110b3, "sll x1,x2,x16") ∷ (0x002321b3, "slt x3,x6,x2")
    ∷ (0x014526b3, "slt x13,x10,x20") ∷ (0x01c9aab3, "slt x21,x19,x28") ∷ (0x0102ae33, "slt x28,x5,x16") ∷ (0x01f22bb3, "slt x23,x4,x31")
    ∷ (0x013838b3, "sltu x17,x16,x19") ∷ (0x00993533, "sltu x10,x18,x9") ∷ (0x01b0bd33, "sltu x26,x1,x27") ∷ (0x01ed3b33, "sltu x22,x26,x30")
    ∷ (0x00923933, "sltu x18,x4,x9") ∷ (0x010ec633, "xor x12,x29,x16") ∷ (0x011fc3b3, "xor x7,x31,x17") ∷ (0x01974db3, "xor x27,x14,x25")
    ∷ (0x01b347b3, "xor x15,x6,x27") ∷ (0x013ecb33, "xor x22,x29,x19") ∷ (0x006a5d33, "srl x26,x20,x6") ∷ (0x012f58b3, "srl x17,x30,x18")
    ∷ (0x00535cb3, "srl x25,x6,x5") ∷ (0x0013d9b3, "srl x19,x7,x1") ∷ (0x0029dfb3, "srl x31,x19,x2") ∷ (0x4005dc33, "sra x24,x11,x0")
    ∷ (0x40385233, "sra x4,x16,x3") ∷ (0x40d35033, "sra x0,x6,x13") ∷ (0x40d3da33, "sra x20,x7,x13") ∷ (0x4082d333, "sra x6,x5,x8")
    ∷ (0x00a6eeb3, "or x29,x13,x10") ∷ (0x016a6fb3, "or x31,x20,x22") ∷ (0x008b6933, "or x18,x22,x8") ∷ (0x0019ecb3, "or x25,x19,x1")
    ∷ (0x00beeab3, "or x21,x29,x11") ∷ (0x00a47c33, "and x24,x8,x10") ∷ (0x013cfd33, "and x26,x25,x19") ∷ (0x00357bb3, "and x23,x10,x3")
    ∷ (0x0037fe33, "and x28,x15,x3") ∷ (0x01f67ab3, "and x21,x12,x31") ∷ []

abbrev fences : List Word
fences =
    (0x02ee040f, "fence x8,x28,46") ∷ (0x4053038f, "fence x7,x6,1029") ∷ (0x40cf8b0f, "fence x22,x31,1036") ∷ (0x4ab38e0f, "fence x28,x7,1195")
    ∷ (0x1bc2088f, "fence x17,x4,444") ∷ []

abbrev mul_divs : List Word
mul_divs =
    (0x038a0fb3, "mul x31,x20,x24") ∷ (0x03050a33, "mul x20,x10,x16") ∷ (0x03180ab3, "mul x21,x16,x17") ∷ (0x02ff80b3, "mul x1,x31,x15")
    ∷ (0x02320ab3, "mul x21,x4,x3") ∷ (0x03121b33, "mulh x22,x4,x17") ∷ (0x02f29d33, "mulh x26,x5,x15") ∷ (0x03599333, "mulh x6,x19,x21")
    ∷ (0x022a9933, "mulh x18,x21,x2") ∷ (0x02a692b3, "mulh x5,x13,x10") ∷ (0x03ed29b3, "mulhsu x19,x26,x30") ∷ (0x02c625b3, "mulhsu x11,x12,x12")
    ∷ (0x03302833, "mulhsu x16,x0,x19") ∷ (0x033cac33, "mulhsu x24,x25,x19") ∷ (0x02972a33, "mulhsu x20,x14,x9") ∷ (0x038ab1b3, "mulhu x3,x21,x24")
    ∷ (0x0381ba33, "mulhu x20,x3,x24") ∷ (0x03fa3033, "mulhu x0,x20,x31") ∷ (0x033b3eb3, "mulhu x29,x22,x19") ∷ (0x0368b933, "mulhu x18,x17,x22")
    ∷ (0x03614033, "div x0,x2,x22") ∷ (0x03e6c933, "div x18,x13,x30") ∷ (0x03aac633, "div x12,x21,x26") ∷ (0x03cfc6b3, "div x13,x31,x28")
    ∷ (0x02be49b3, "div x19,x28,x11") ∷ (0x02cbd8b3, "divu x17,x23,x12") ∷ (0x02835c33, "divu x24,x6,x8") ∷ (0x035e5733, "divu x14,x28,x21")
    ∷ (0x02d551b3, "divu x3,x10,x13") ∷ (0x0229d0b3, "divu x1,x19,x2") ∷ (0x0346eb33, "rem x22,x13,x20") ∷ (0x02f0e433, "rem x8,x1,x15")
    ∷ (0x02a6e833, "rem x16,x13,x10") ∷ (0x02a967b3, "rem x15,x18,x10") ∷ (0x0373e533, "rem x10,x7,x23") ∷ (0x03d278b3, "remu x17,x4,x29")
    ∷ (0x02c6f033, "remu x0,x13,x12") ∷ (0x03ef7233, "remu x4,x30,x30") ∷ (0x03827eb3, "remu x29,x4,x24") ∷ (0x0251fdb3, "remu x27,x3,x5") ∷ []

-- no instruction
abbrev illegal_words : List ℕ
illegal_words =
    0x856bb883 ∷ 0x4611e383 ∷ 0xf3726603 ∷ 0xcb96ee87 ∷ 0xddc67607 ∷ 0xc9d7fb87 ∷ 0xc8aa0d8b ∷ 0x00cbd30b ∷ 0xdbb5730b ∷ 0x00e42b0f ∷ 0x4485670f
    ∷ 0x4ff7798f ∷ 0xfdd49d93 ∷ 0xc88e9093 ∷ 0x8e489293 ∷ 0x3792251b ∷ 0x4338171b ∷ 0x41ee831b ∷ 0xb1f2419f ∷ 0x59552c9f ∷ 0x7d05189f ∷ 0xc4e3dea3
    ∷ 0xd25ce4a3 ∷ 0x015a4323 ∷ 0xeb4068a7 ∷ 0xf690e8a7 ∷ 0x781e30a7 ∷ 0x8afd642b ∷ 0xf91323ab ∷ 0xb133bb2b ∷ 0xe8a55faf ∷ 0x8e4351af ∷ 0xdf1c9faf
    ∷ 0x414d62b3 ∷ 0x5e3ffeb3 ∷ 0x411a2933 ∷ 0x2e142cbb ∷ 0xa72ce7bb ∷ 0xe1f47c3b ∷ 0x5f474b3f ∷ 0x99d0ef3f ∷ 0x9ecda93f ∷ 0x4b997dc3 ∷ 0xe5989143
    ∷ 0xc0f09943 ∷ 0xe019af47 ∷ 0x3a49bb47 ∷ 0xc999b247 ∷ 0xb0a9d24b ∷ 0x5695e64b ∷ 0x74ec464b ∷ 0xe956334f ∷ 0xfd9250cf ∷ 0x131df4cf ∷ 0xcda71253
    ∷ 0x3eb171d3 ∷ 0xe4272dd3 ∷ 0x20973957 ∷ 0x999ae6d7 ∷ 0x6be5be57 ∷ 0x8de9845b ∷ 0x1cdd5cdb ∷ 0x9223b3db ∷ 0x33a4e95f ∷ 0x3ce7565f ∷ 0x32ac84df
    ∷ 0x8875ade3 ∷ 0x6e1c2ce3 ∷ 0x0306bd63 ∷ 0x7bb4a3e7 ∷ 0xa53da167 ∷ 0xbecbffe7 ∷ 0x7cbcd8eb ∷ 0xeb04996b ∷ 0xd1c7ffeb ∷ 0x0166f2f3 ∷ 0x15253873
    ∷ 0x41efce73 ∷ 0x975c64f7 ∷ 0x8253b177 ∷ 0xb64d3877 ∷ 0x7515fe7b ∷ 0xf0e8767b ∷ 0xc343f8fb ∷ 0x60241cff ∷ 0x2fa83fff ∷ 0x6b24e8ff ∷ []

-- ---- halfwords, by their short forms, the rows of the tables in crates/isa/specs/Rvc.antt

abbrev c_addi4spn : List Half
c_addi4spn =
    (0x0020, 0x00810413, "addi x8,x2,8") ∷ (0x004c, 0x00410593, "addi x11,x2,4") ∷ (0x00f8, 0x04c10713, "addi x14,x2,76")
    ∷ (0x01a4, 0x0c810493, "addi x9,x2,200") ∷ (0x0250, 0x10410613, "addi x12,x2,260") ∷ (0x02fc, 0x14c10793, "addi x15,x2,332")
    ∷ (0x03a8, 0x1c810513, "addi x10,x2,456") ∷ (0x0454, 0x20410693, "addi x13,x2,516") ∷ (0x0500, 0x28010413, "addi x8,x2,640")
    ∷ (0x05ac, 0x2c810593, "addi x11,x2,712") ∷ (0x0658, 0x30410713, "addi x14,x2,772") ∷ (0x0704, 0x38010493, "addi x9,x2,896")
    ∷ (0x07b0, 0x3c810613, "addi x12,x2,968") ∷ (0x085c, 0x01410793, "addi x15,x2,20") ∷ (0x0908, 0x09010513, "addi x10,x2,144")
    ∷ (0x09b4, 0x0d810693, "addi x13,x2,216") ∷ (0x0a60, 0x11c10413, "addi x8,x2,284") ∷ (0x0b0c, 0x19010593, "addi x11,x2,400")
    ∷ (0x0bb8, 0x1d810713, "addi x14,x2,472") ∷ (0x0c64, 0x21c10493, "addi x9,x2,540") ∷ (0x0d10, 0x29010613, "addi x12,x2,656")
    ∷ (0x0dbc, 0x2d810793, "addi x15,x2,728") ∷ (0x0e68, 0x31c10513, "addi x10,x2,796") ∷ (0x0f14, 0x39010693, "addi x13,x2,912")
    ∷ (0x0fc0, 0x3d410413, "addi x8,x2,980") ∷ (0x1000, 0x02010413, "addi x8,x2,32") ∷ (0x104c, 0x02410593, "addi x11,x2,36")
    ∷ (0x10f8, 0x06c10713, "addi x14,x2,108") ∷ (0x11a4, 0x0e810493, "addi x9,x2,232") ∷ (0x1250, 0x12410613, "addi x12,x2,292")
    ∷ (0x12fc, 0x16c10793, "addi x15,x2,364") ∷ (0x13a8, 0x1e810513, "addi x10,x2,488") ∷ (0x1454, 0x22410693, "addi x13,x2,548")
    ∷ (0x1500, 0x2a010413, "addi x8,x2,672") ∷ (0x15ac, 0x2e810593, "addi x11,x2,744") ∷ (0x1658, 0x32410713, "addi x14,x2,804")
    ∷ (0x1704, 0x3a010493, "addi x9,x2,928") ∷ (0x17b0, 0x3e810613, "addi x12,x2,1000") ∷ (0x185c, 0x03410793, "addi x15,x2,52")
    ∷ (0x1908, 0x0b010513, "addi x10,x2,176") ∷ (0x19b4, 0x0f810693, "addi x13,x2,248") ∷ (0x1a60, 0x13c10413, "addi x8,x2,316")
    ∷ (0x1b0c, 0x1b010593, "addi x11,x2,432") ∷ (0x1bb8, 0x1f810713, "addi x14,x2,504") ∷ (0x1c64, 0x23c10493, "addi x9,x2,572")
    ∷ (0x1d10, 0x2b010613, "addi x12,x2,688") ∷ (0x1dbc, 0x2f810793, "addi x15,x2,760") ∷ (0x1e68, 0x33c10513, "addi x10,x2,828")
    ∷ (0x1f14, 0x3b010693, "addi x13,x2,944") ∷ (0x1fc0, 0x3f410413, "addi x8,x2,1012") ∷ []

abbrev c_lw : List Half
c_lw =
    (0x4000, 0x00042403, "lw x8,0(x8)") ∷ (0x4088, 0x0004a503, "lw x10,0(x9)") ∷ (0x4134, 0x04052683, "lw x13,64(x10)")
    ∷ (0x41e0, 0x0445a403, "lw x8,68(x11)") ∷ (0x428c, 0x0006a583, "lw x11,0(x13)") ∷ (0x4338, 0x04072703, "lw x14,64(x14)")
    ∷ (0x43e4, 0x0447a483, "lw x9,68(x15)") ∷ (0x4490, 0x0084a603, "lw x12,8(x9)") ∷ (0x453c, 0x04852783, "lw x15,72(x10)")
    ∷ (0x45e8, 0x04c5a503, "lw x10,76(x11)") ∷ (0x4694, 0x0086a683, "lw x13,8(x13)") ∷ (0x4740, 0x00c72403, "lw x8,12(x14)")
    ∷ (0x47ec, 0x04c7a583, "lw x11,76(x15)") ∷ (0x4898, 0x0104a703, "lw x14,16(x9)") ∷ (0x4944, 0x01452483, "lw x9,20(x10)")
    ∷ (0x49f0, 0x0545a603, "lw x12,84(x11)") ∷ (0x4a9c, 0x0106a783, "lw x15,16(x13)") ∷ (0x4b48, 0x01472503, "lw x10,20(x14)")
    ∷ (0x4bf4, 0x0547a683, "lw x13,84(x15)") ∷ (0x4ca0, 0x0584a403, "lw x8,88(x9)") ∷ (0x4d4c, 0x01c52583, "lw x11,28(x10)")
    ∷ (0x4df8, 0x05c5a703, "lw x14,92(x11)") ∷ (0x4ea4, 0x0586a483, "lw x9,88(x13)") ∷ (0x4f50, 0x01c72603, "lw x12,28(x14)")
    ∷ (0x4ffc, 0x05c7a783, "lw x15,92(x15)") ∷ (0x5000, 0x02042403, "lw x8,32(x8)") ∷ (0x5050, 0x02442603, "lw x12,36(x8)")
    ∷ (0x510c, 0x02052583, "lw x11,32(x10)") ∷ (0x51b8, 0x0605a703, "lw x14,96(x11)") ∷ (0x5264, 0x06462483, "lw x9,100(x12)")
    ∷ (0x5310, 0x02072603, "lw x12,32(x14)") ∷ (0x53bc, 0x0607a783, "lw x15,96(x15)") ∷ (0x5468, 0x06c42503, "lw x10,108(x8)")
    ∷ (0x5514, 0x02852683, "lw x13,40(x10)") ∷ (0x55c0, 0x02c5a403, "lw x8,44(x11)") ∷ (0x566c, 0x06c62583, "lw x11,108(x12)")
    ∷ (0x5718, 0x02872703, "lw x14,40(x14)") ∷ (0x57c4, 0x02c7a483, "lw x9,44(x15)") ∷ (0x5870, 0x07442603, "lw x12,116(x8)")
    ∷ (0x591c, 0x03052783, "lw x15,48(x10)") ∷ (0x59c8, 0x0345a503, "lw x10,52(x11)") ∷ (0x5a74, 0x07462683, "lw x13,116(x12)")
    ∷ (0x5b20, 0x07072403, "lw x8,112(x14)") ∷ (0x5bcc, 0x0347a583, "lw x11,52(x15)") ∷ (0x5c78, 0x07c42703, "lw x14,124(x8)")
    ∷ (0x5d24, 0x07852483, "lw x9,120(x10)") ∷ (0x5dd0, 0x03c5a603, "lw x12,60(x11)") ∷ (0x5e7c, 0x07c62783, "lw x15,124(x12)")
    ∷ (0x5f28, 0x07872503, "lw x10,120(x14)") ∷ (0x5fd4, 0x03c7a683, "lw x13,60(x15)") ∷ []

abbrev c_sw : List Half
c_sw =
    (0xc000, 0x00842023, "sw x8,0(x8)") ∷ (0xc014, 0x00d42023, "sw x13,0(x8)") ∷ (0xc0c0, 0x0084a223, "sw x8,4(x9)")
    ∷ (0xc16c, 0x04b52223, "sw x11,68(x10)") ∷ (0xc218, 0x00e62023, "sw x14,0(x12)") ∷ (0xc2c4, 0x0096a223, "sw x9,4(x13)")
    ∷ (0xc370, 0x04c72223, "sw x12,68(x14)") ∷ (0xc41c, 0x00f42423, "sw x15,8(x8)") ∷ (0xc4c8, 0x00a4a623, "sw x10,12(x9)")
    ∷ (0xc574, 0x04d52623, "sw x13,76(x10)") ∷ (0xc620, 0x04862423, "sw x8,72(x12)") ∷ (0xc6cc, 0x00b6a623, "sw x11,12(x13)")
    ∷ (0xc778, 0x04e72623, "sw x14,76(x14)") ∷ (0xc824, 0x04942823, "sw x9,80(x8)") ∷ (0xc8d0, 0x00c4aa23, "sw x12,20(x9)")
    ∷ (0xc97c, 0x04f52a23, "sw x15,84(x10)") ∷ (0xca28, 0x04a62823, "sw x10,80(x12)") ∷ (0xcad4, 0x00d6aa23, "sw x13,20(x13)")
    ∷ (0xcb80, 0x0087a823, "sw x8,16(x15)") ∷ (0xcc2c, 0x04b42c23, "sw x11,88(x8)") ∷ (0xccd8, 0x00e4ae23, "sw x14,28(x9)")
    ∷ (0xcd84, 0x0095ac23, "sw x9,24(x11)") ∷ (0xce30, 0x04c62c23, "sw x12,88(x12)") ∷ (0xcedc, 0x00f6ae23, "sw x15,28(x13)")
    ∷ (0xcf88, 0x00a7ac23, "sw x10,24(x15)") ∷ (0xd000, 0x02842023, "sw x8,32(x8)") ∷ (0xd034, 0x06d42023, "sw x13,96(x8)")
    ∷ (0xd0e0, 0x0684a223, "sw x8,100(x9)") ∷ (0xd18c, 0x02b5a023, "sw x11,32(x11)") ∷ (0xd238, 0x06e62023, "sw x14,96(x12)")
    ∷ (0xd2e4, 0x0696a223, "sw x9,100(x13)") ∷ (0xd390, 0x02c7a023, "sw x12,32(x15)") ∷ (0xd43c, 0x06f42423, "sw x15,104(x8)")
    ∷ (0xd4e8, 0x06a4a623, "sw x10,108(x9)") ∷ (0xd594, 0x02d5a423, "sw x13,40(x11)") ∷ (0xd640, 0x02862623, "sw x8,44(x12)")
    ∷ (0xd6ec, 0x06b6a623, "sw x11,108(x13)") ∷ (0xd798, 0x02e7a423, "sw x14,40(x15)") ∷ (0xd844, 0x02942a23, "sw x9,52(x8)")
    ∷ (0xd8f0, 0x06c4aa23, "sw x12,116(x9)") ∷ (0xd99c, 0x02f5a823, "sw x15,48(x11)") ∷ (0xda48, 0x02a62a23, "sw x10,52(x12)")
    ∷ (0xdaf4, 0x06d6aa23, "sw x13,116(x13)") ∷ (0xdba0, 0x0687a823, "sw x8,112(x15)") ∷ (0xdc4c, 0x02b42e23, "sw x11,60(x8)")
    ∷ (0xdcf8, 0x06e4ae23, "sw x14,124(x9)") ∷ (0xdda4, 0x0695ac23, "sw x9,120(x11)") ∷ (0xde50, 0x02c62e23, "sw x12,60(x12)")
    ∷ (0xdefc, 0x06f6ae23, "sw x15,124(x13)") ∷ (0xdfa8, 0x06a7ac23, "sw x10,120(x15)") ∷ []

abbrev c_addi : List Half
c_addi =
    (0x0001, 0x00000013, "addi x0,x0,0") ∷ (0x000d, 0x00300013, "addi x0,x0,3") ∷ (0x0085, 0x00108093, "addi x1,x1,1")
    ∷ (0x0131, 0x00c10113, "addi x2,x2,12") ∷ (0x01dd, 0x01718193, "addi x3,x3,23") ∷ (0x0289, 0x00228293, "addi x5,x5,2")
    ∷ (0x0335, 0x00d30313, "addi x6,x6,13") ∷ (0x03e1, 0x01838393, "addi x7,x7,24") ∷ (0x048d, 0x00348493, "addi x9,x9,3")
    ∷ (0x0539, 0x00e50513, "addi x10,x10,14") ∷ (0x05e5, 0x01958593, "addi x11,x11,25") ∷ (0x0691, 0x00468693, "addi x13,x13,4")
    ∷ (0x073d, 0x00f70713, "addi x14,x14,15") ∷ (0x07e9, 0x01a78793, "addi x15,x15,26") ∷ (0x0895, 0x00588893, "addi x17,x17,5")
    ∷ (0x0941, 0x01090913, "addi x18,x18,16") ∷ (0x09ed, 0x01b98993, "addi x19,x19,27") ∷ (0x0a99, 0x006a8a93, "addi x21,x21,6")
    ∷ (0x0b45, 0x011b0b13, "addi x22,x22,17") ∷ (0x0bf1, 0x01cb8b93, "addi x23,x23,28") ∷ (0x0c9d, 0x007c8c93, "addi x25,x25,7")
    ∷ (0x0d49, 0x012d0d13, "addi x26,x26,18") ∷ (0x0df5, 0x01dd8d93, "addi x27,x27,29") ∷ (0x0ea1, 0x008e8e93, "addi x29,x29,8")
    ∷ (0x0f4d, 0x013f0f13, "addi x30,x30,19") ∷ (0x0ff9, 0x01ef8f93, "addi x31,x31,30") ∷ (0x1001, 0xfe000013, "addi x0,x0,-32")
    ∷ (0x10a1, 0xfe808093, "addi x1,x1,-24") ∷ (0x114d, 0xff310113, "addi x2,x2,-13") ∷ (0x11f9, 0xffe18193, "addi x3,x3,-2")
    ∷ (0x12a5, 0xfe928293, "addi x5,x5,-23") ∷ (0x1351, 0xff430313, "addi x6,x6,-12") ∷ (0x13fd, 0xfff38393, "addi x7,x7,-1")
    ∷ (0x14a9, 0xfea48493, "addi x9,x9,-22") ∷ (0x1555, 0xff550513, "addi x10,x10,-11") ∷ (0x1601, 0xfe060613, "addi x12,x12,-32")
    ∷ (0x16ad, 0xfeb68693, "addi x13,x13,-21") ∷ (0x1759, 0xff670713, "addi x14,x14,-10") ∷ (0x1805, 0xfe180813, "addi x16,x16,-31")
    ∷ (0x18b1, 0xfec88893, "addi x17,x17,-20") ∷ (0x195d, 0xff790913, "addi x18,x18,-9") ∷ (0x1a09, 0xfe2a0a13, "addi x20,x20,-30")
    ∷ (0x1ab5, 0xfeda8a93, "addi x21,x21,-19") ∷ (0x1b61, 0xff8b0b13, "addi x22,x22,-8") ∷ (0x1c0d, 0xfe3c0c13, "addi x24,x24,-29")
    ∷ (0x1cb9, 0xfeec8c93, "addi x25,x25,-18") ∷ (0x1d65, 0xff9d0d13, "addi x26,x26,-7") ∷ (0x1e11, 0xfe4e0e13, "addi x28,x28,-28")
    ∷ (0x1ebd, 0xfefe8e93, "addi x29,x29,-17") ∷ (0x1f69, 0xffaf0f13, "addi x30,x30,-6") ∷ []

abbrev c_jal : List Half
c_jal =
    (0x2001, 0x000000ef, "jal x1,0") ∷ (0x202d, 0x02a000ef, "jal x1,42") ∷ (0x20d9, 0x0c6000ef, "jal x1,198") ∷ (0x2185, 0x460000ef, "jal x1,1120")
    ∷ (0x2231, 0x10c000ef, "jal x1,268") ∷ (0x22dd, 0x1e6000ef, "jal x1,486") ∷ (0x2389, 0x542000ef, "jal x1,1346")
    ∷ (0x2435, 0x22c000ef, "jal x1,556") ∷ (0x24e1, 0x2c8000ef, "jal x1,712") ∷ (0x258d, 0x662000ef, "jal x1,1634")
    ∷ (0x2639, 0x30e000ef, "jal x1,782") ∷ (0x26e5, 0x3e8000ef, "jal x1,1000") ∷ (0x2791, 0x744000ef, "jal x1,1860")
    ∷ (0x283d, 0x03e000ef, "jal x1,62") ∷ (0x28e9, 0x0da000ef, "jal x1,218") ∷ (0x2995, 0x474000ef, "jal x1,1140")
    ∷ (0x2a41, 0x190000ef, "jal x1,400") ∷ (0x2aed, 0x1fa000ef, "jal x1,506") ∷ (0x2b99, 0x556000ef, "jal x1,1366")
    ∷ (0x2c45, 0x2b0000ef, "jal x1,688") ∷ (0x2cf1, 0x2dc000ef, "jal x1,732") ∷ (0x2d9d, 0x676000ef, "jal x1,1654")
    ∷ (0x2e49, 0x392000ef, "jal x1,914") ∷ (0x2ef5, 0x3fc000ef, "jal x1,1020") ∷ (0x2fa1, 0x758000ef, "jal x1,1880")
    ∷ (0x3001, 0x801ff0ef, "jal x1,-2048") ∷ (0x304d, 0x8a3ff0ef, "jal x1,-1886") ∷ (0x30f9, 0x8cfff0ef, "jal x1,-1842")
    ∷ (0x31a5, 0xc69ff0ef, "jal x1,-920") ∷ (0x3251, 0x985ff0ef, "jal x1,-1660") ∷ (0x32fd, 0x9efff0ef, "jal x1,-1554")
    ∷ (0x33a9, 0xd4bff0ef, "jal x1,-694") ∷ (0x3455, 0xaa5ff0ef, "jal x1,-1372") ∷ (0x3501, 0xe01ff0ef, "jal x1,-512")
    ∷ (0x35ad, 0xe6bff0ef, "jal x1,-406") ∷ (0x3659, 0xb87ff0ef, "jal x1,-1146") ∷ (0x3705, 0xf21ff0ef, "jal x1,-224")
    ∷ (0x37b1, 0xf4dff0ef, "jal x1,-180") ∷ (0x385d, 0x8b7ff0ef, "jal x1,-1866") ∷ (0x3909, 0xc13ff0ef, "jal x1,-1006")
    ∷ (0x39b5, 0xc7dff0ef, "jal x1,-900") ∷ (0x3a61, 0x999ff0ef, "jal x1,-1640") ∷ (0x3b0d, 0xd33ff0ef, "jal x1,-718")
    ∷ (0x3bb9, 0xd5fff0ef, "jal x1,-674") ∷ (0x3c65, 0xab9ff0ef, "jal x1,-1352") ∷ (0x3d11, 0xe15ff0ef, "jal x1,-492")
    ∷ (0x3dbd, 0xe7fff0ef, "jal x1,-386") ∷ (0x3e69, 0xb9bff0ef, "jal x1,-1126") ∷ (0x3f15, 0xf35ff0ef, "jal x1,-204")
    ∷ (0x3fc1, 0xfd1ff0ef, "jal x1,-48") ∷ []

abbrev c_li : List Half
c_li =
    (0x4001, 0x00000013, "addi x0,x0,0") ∷ (0x4035, 0x00d00013, "addi x0,x0,13") ∷ (0x40c1, 0x01000093, "addi x1,x0,16")
    ∷ (0x416d, 0x01b00113, "addi x2,x0,27") ∷ (0x4219, 0x00600213, "addi x4,x0,6") ∷ (0x42c5, 0x01100293, "addi x5,x0,17")
    ∷ (0x4371, 0x01c00313, "addi x6,x0,28") ∷ (0x441d, 0x00700413, "addi x8,x0,7") ∷ (0x44c9, 0x01200493, "addi x9,x0,18")
    ∷ (0x4575, 0x01d00513, "addi x10,x0,29") ∷ (0x4621, 0x00800613, "addi x12,x0,8") ∷ (0x46cd, 0x01300693, "addi x13,x0,19")
    ∷ (0x4779, 0x01e00713, "addi x14,x0,30") ∷ (0x4825, 0x00900813, "addi x16,x0,9") ∷ (0x48d1, 0x01400893, "addi x17,x0,20")
    ∷ (0x497d, 0x01f00913, "addi x18,x0,31") ∷ (0x4a29, 0x00a00a13, "addi x20,x0,10") ∷ (0x4ad5, 0x01500a93, "addi x21,x0,21")
    ∷ (0x4b81, 0x00000b93, "addi x23,x0,0") ∷ (0x4c2d, 0x00b00c13, "addi x24,x0,11") ∷ (0x4cd9, 0x01600c93, "addi x25,x0,22")
    ∷ (0x4d85, 0x00100d93, "addi x27,x0,1") ∷ (0x4e31, 0x00c00e13, "addi x28,x0,12") ∷ (0x4edd, 0x01700e93, "addi x29,x0,23")
    ∷ (0x4f89, 0x00200f93, "addi x31,x0,2") ∷ (0x5001, 0xfe000013, "addi x0,x0,-32") ∷ (0x5099, 0xfe600093, "addi x1,x0,-26")
    ∷ (0x5145, 0xff100113, "addi x2,x0,-15") ∷ (0x51f1, 0xffc00193, "addi x3,x0,-4") ∷ (0x529d, 0xfe700293, "addi x5,x0,-25")
    ∷ (0x5349, 0xff200313, "addi x6,x0,-14") ∷ (0x53f5, 0xffd00393, "addi x7,x0,-3") ∷ (0x54a1, 0xfe800493, "addi x9,x0,-24")
    ∷ (0x554d, 0xff300513, "addi x10,x0,-13") ∷ (0x55f9, 0xffe00593, "addi x11,x0,-2") ∷ (0x56a5, 0xfe900693, "addi x13,x0,-23")
    ∷ (0x5751, 0xff400713, "addi x14,x0,-12") ∷ (0x57fd, 0xfff00793, "addi x15,x0,-1") ∷ (0x58a9, 0xfea00893, "addi x17,x0,-22")
    ∷ (0x5955, 0xff500913, "addi x18,x0,-11") ∷ (0x5a01, 0xfe000a13, "addi x20,x0,-32") ∷ (0x5aad, 0xfeb00a93, "addi x21,x0,-21")
    ∷ (0x5b59, 0xff600b13, "addi x22,x0,-10") ∷ (0x5c05, 0xfe100c13, "addi x24,x0,-31") ∷ (0x5cb1, 0xfec00c93, "addi x25,x0,-20")
    ∷ (0x5d5d, 0xff700d13, "addi x26,x0,-9") ∷ (0x5e09, 0xfe200e13, "addi x28,x0,-30") ∷ (0x5eb5, 0xfed00e93, "addi x29,x0,-19")
    ∷ (0x5f61, 0xff800f13, "addi x30,x0,-8") ∷ []

abbrev c_upper : List Half
c_upper =
    (0x6005, 0x00001037, "lui x0,1") ∷ (0x602d, 0x0000b037, "lui x0,11") ∷ (0x60dd, 0x000170b7, "lui x1,23") ∷ (0x6105, 0x02010113, "addi x2,x2,32")
    ∷ (0x6191, 0x000041b7, "lui x3,4") ∷ (0x6241, 0x00010237, "lui x4,16") ∷ (0x62f1, 0x0001c2b7, "lui x5,28") ∷ (0x63a5, 0x000093b7, "lui x7,9")
    ∷ (0x6455, 0x00015437, "lui x8,21") ∷ (0x6509, 0x00002537, "lui x10,2") ∷ (0x65b9, 0x0000e5b7, "lui x11,14") ∷ (0x6669, 0x0001a637, "lui x12,26")
    ∷ (0x671d, 0x00007737, "lui x14,7") ∷ (0x67cd, 0x000137b7, "lui x15,19") ∷ (0x687d, 0x0001f837, "lui x16,31") ∷ (0x6931, 0x0000c937, "lui x18,12")
    ∷ (0x69e1, 0x000189b7, "lui x19,24") ∷ (0x6a95, 0x00005ab7, "lui x21,5") ∷ (0x6b45, 0x00011b37, "lui x22,17") ∷ (0x6bf5, 0x0001dbb7, "lui x23,29")
    ∷ (0x6ca9, 0x0000acb7, "lui x25,10") ∷ (0x6d59, 0x00016d37, "lui x26,22") ∷ (0x6e0d, 0x00003e37, "lui x28,3") ∷ (0x6ebd, 0x0000feb7, "lui x29,15")
    ∷ (0x6f6d, 0x0001bf37, "lui x30,27") ∷ (0x7001, 0xfffe0037, "lui x0,1048544") ∷ (0x701d, 0xfffe7037, "lui x0,1048551")
    ∷ (0x70c9, 0xffff20b7, "lui x1,1048562") ∷ (0x7101, 0xe0010113, "addi x2,x2,-512") ∷ (0x7175, 0xf7010113, "addi x2,x2,-144")
    ∷ (0x7221, 0xfffe8237, "lui x4,1048552") ∷ (0x72cd, 0xffff32b7, "lui x5,1048563") ∷ (0x7379, 0xffffe337, "lui x6,1048574")
    ∷ (0x7425, 0xfffe9437, "lui x8,1048553") ∷ (0x74d1, 0xffff44b7, "lui x9,1048564") ∷ (0x757d, 0xfffff537, "lui x10,1048575")
    ∷ (0x7629, 0xfffea637, "lui x12,1048554") ∷ (0x76d5, 0xffff56b7, "lui x13,1048565") ∷ (0x7781, 0xfffe07b7, "lui x15,1048544")
    ∷ (0x782d, 0xfffeb837, "lui x16,1048555") ∷ (0x78d9, 0xffff68b7, "lui x17,1048566") ∷ (0x7985, 0xfffe19b7, "lui x19,1048545")
    ∷ (0x7a31, 0xfffeca37, "lui x20,1048556") ∷ (0x7add, 0xffff7ab7, "lui x21,1048567") ∷ (0x7b89, 0xfffe2bb7, "lui x23,1048546")
    ∷ (0x7c35, 0xfffedc37, "lui x24,1048557") ∷ (0x7ce1, 0xffff8cb7, "lui x25,1048568") ∷ (0x7d8d, 0xfffe3db7, "lui x27,1048547")
    ∷ (0x7e39, 0xfffeee37, "lui x28,1048558") ∷ (0x7ee5, 0xffff9eb7, "lui x29,1048569") ∷ (0x7f91, 0xfffe4fb7, "lui x31,1048548") ∷ []

abbrev c_alu : List Half
c_alu =
    (0x8001, 0x00045413, "srli x8,x8,0") ∷ (0x8021, 0x00845413, "srli x8,x8,8") ∷ (0x80cd, 0x0134d493, "srli x9,x9,19")
    ∷ (0x8179, 0x01e55513, "srli x10,x10,30") ∷ (0x8225, 0x00965613, "srli x12,x12,9") ∷ (0x82d1, 0x0146d693, "srli x13,x13,20")
    ∷ (0x837d, 0x01f75713, "srli x14,x14,31") ∷ (0x8401, 0x40045413, "srai x8,x8,0") ∷ (0x8429, 0x40a45413, "srai x8,x8,10")
    ∷ (0x84d5, 0x4154d493, "srai x9,x9,21") ∷ (0x8581, 0x4005d593, "srai x11,x11,0") ∷ (0x862d, 0x40b65613, "srai x12,x12,11")
    ∷ (0x86d9, 0x4166d693, "srai x13,x13,22") ∷ (0x8785, 0x4017d793, "srai x15,x15,1") ∷ (0x8801, 0x00047413, "andi x8,x8,0")
    ∷ (0x8831, 0x00c47413, "andi x8,x8,12") ∷ (0x88dd, 0x0174f493, "andi x9,x9,23") ∷ (0x8989, 0x0025f593, "andi x11,x11,2")
    ∷ (0x8a35, 0x00d67613, "andi x12,x12,13") ∷ (0x8ae1, 0x0186f693, "andi x13,x13,24") ∷ (0x8b8d, 0x0037f793, "andi x15,x15,3")
    ∷ (0x8c01, 0x40840433, "sub x8,x8,x8") ∷ (0x8c21, 0x00844433, "xor x8,x8,x8") ∷ (0x8c39, 0x00e44433, "xor x8,x8,x14")
    ∷ (0x8c41, 0x00846433, "or x8,x8,x8") ∷ (0x8c61, 0x00847433, "and x8,x8,x8") ∷ (0x8ce5, 0x0094f4b3, "and x9,x9,x9")
    ∷ (0x8d91, 0x40c585b3, "sub x11,x11,x12") ∷ (0x8e3d, 0x00f64633, "xor x12,x12,x15") ∷ (0x8ee9, 0x00a6f6b3, "and x13,x13,x10")
    ∷ (0x8f95, 0x40d787b3, "sub x15,x15,x13") ∷ (0x9801, 0xfe047413, "andi x8,x8,-32") ∷ (0x9849, 0xff247413, "andi x8,x8,-14")
    ∷ (0x98f5, 0xffd4f493, "andi x9,x9,-3") ∷ (0x99a1, 0xfe85f593, "andi x11,x11,-24") ∷ (0x9a4d, 0xff367613, "andi x12,x12,-13")
    ∷ (0x9af9, 0xffe6f693, "andi x13,x13,-2") ∷ (0x9ba5, 0xfe97f793, "andi x15,x15,-23") ∷ []

abbrev c_j : List Half
c_j =
    (0xa001, 0x0000006f, "jal x0,0") ∷ (0xa0a9, 0x04a0006f, "jal x0,74") ∷ (0xa155, 0x4a40006f, "jal x0,1188") ∷ (0xa201, 0x1000006f, "jal x0,256")
    ∷ (0xa2ad, 0x16a0006f, "jal x0,362") ∷ (0xa359, 0x5860006f, "jal x0,1414") ∷ (0xa405, 0x2200006f, "jal x0,544")
    ∷ (0xa4b1, 0x24c0006f, "jal x0,588") ∷ (0xa55d, 0x6a60006f, "jal x0,1702") ∷ (0xa609, 0x3020006f, "jal x0,770")
    ∷ (0xa6b5, 0x36c0006f, "jal x0,876") ∷ (0xa761, 0x7880006f, "jal x0,1928") ∷ (0xa80d, 0x0320006f, "jal x0,50") ∷ (0xa8b9, 0x05e0006f, "jal x0,94")
    ∷ (0xa965, 0x4b80006f, "jal x0,1208") ∷ (0xaa11, 0x1140006f, "jal x0,276") ∷ (0xaabd, 0x17e0006f, "jal x0,382")
    ∷ (0xab69, 0x59a0006f, "jal x0,1434") ∷ (0xac15, 0x2340006f, "jal x0,564") ∷ (0xacc1, 0x2d00006f, "jal x0,720")
    ∷ (0xad6d, 0x6ba0006f, "jal x0,1722") ∷ (0xae19, 0x3160006f, "jal x0,790") ∷ (0xaec5, 0x3f00006f, "jal x0,1008")
    ∷ (0xaf71, 0x79c0006f, "jal x0,1948") ∷ (0xb001, 0x801ff06f, "jal x0,-2048") ∷ (0xb01d, 0x827ff06f, "jal x0,-2010")
    ∷ (0xb0c9, 0x8c3ff06f, "jal x0,-1854") ∷ (0xb175, 0xcadff06f, "jal x0,-852") ∷ (0xb221, 0x909ff06f, "jal x0,-1784")
    ∷ (0xb2cd, 0x9e3ff06f, "jal x0,-1566") ∷ (0xb379, 0xd8fff06f, "jal x0,-626") ∷ (0xb425, 0xa29ff06f, "jal x0,-1496")
    ∷ (0xb4d1, 0xac5ff06f, "jal x0,-1340") ∷ (0xb57d, 0xeafff06f, "jal x0,-338") ∷ (0xb629, 0xb0bff06f, "jal x0,-1270")
    ∷ (0xb6d5, 0xbe5ff06f, "jal x0,-1052") ∷ (0xb781, 0xf41ff06f, "jal x0,-192") ∷ (0xb82d, 0x83bff06f, "jal x0,-1990")
    ∷ (0xb8d9, 0x8d7ff06f, "jal x0,-1834") ∷ (0xb985, 0xc71ff06f, "jal x0,-912") ∷ (0xba31, 0x91dff06f, "jal x0,-1764")
    ∷ (0xbadd, 0x9f7ff06f, "jal x0,-1546") ∷ (0xbb89, 0xd53ff06f, "jal x0,-686") ∷ (0xbc35, 0xa3dff06f, "jal x0,-1476")
    ∷ (0xbce1, 0xad9ff06f, "jal x0,-1320") ∷ (0xbd8d, 0xe73ff06f, "jal x0,-398") ∷ (0xbe39, 0xb1fff06f, "jal x0,-1250")
    ∷ (0xbee5, 0xbf9ff06f, "jal x0,-1032") ∷ (0xbf91, 0xf55ff06f, "jal x0,-172") ∷ []

abbrev c_beqz : List Half
c_beqz =
    (0xc001, 0x00040063, "beq x8,x0,0") ∷ (0xc04d, 0x0a040163, "beq x8,x0,162") ∷ (0xc0f9, 0x0c048363, "beq x9,x0,198")
    ∷ (0xc1a5, 0x06058063, "beq x11,x0,96") ∷ (0xc251, 0x08060263, "beq x12,x0,132") ∷ (0xc2fd, 0x0e068363, "beq x13,x0,230")
    ∷ (0xc3a9, 0x04078163, "beq x15,x0,66") ∷ (0xc455, 0x0a040663, "beq x8,x0,172") ∷ (0xc501, 0x00050463, "beq x10,x0,8")
    ∷ (0xc5ad, 0x06058563, "beq x11,x0,106") ∷ (0xc659, 0x08060763, "beq x12,x0,142") ∷ (0xc705, 0x02070463, "beq x14,x0,40")
    ∷ (0xc7b1, 0x04078663, "beq x15,x0,76") ∷ (0xc85d, 0x0a040b63, "beq x8,x0,182") ∷ (0xc909, 0x00050963, "beq x10,x0,18")
    ∷ (0xc9b5, 0x06058a63, "beq x11,x0,116") ∷ (0xca61, 0x0c060863, "beq x12,x0,208") ∷ (0xcb0d, 0x02070963, "beq x14,x0,50")
    ∷ (0xcbb9, 0x04078b63, "beq x15,x0,86") ∷ (0xcc65, 0x0e040c63, "beq x8,x0,248") ∷ (0xcd11, 0x00050e63, "beq x10,x0,28")
    ∷ (0xcdbd, 0x06058f63, "beq x11,x0,126") ∷ (0xce69, 0x0c060d63, "beq x12,x0,218") ∷ (0xcf15, 0x02070e63, "beq x14,x0,60")
    ∷ (0xcfc1, 0x08078c63, "beq x15,x0,152") ∷ (0xd001, 0xf00400e3, "beq x8,x0,-256") ∷ (0xd06d, 0xfe0401e3, "beq x8,x0,-30")
    ∷ (0xd119, 0xf00503e3, "beq x10,x0,-250") ∷ (0xd1c5, 0xfa0580e3, "beq x11,x0,-96") ∷ (0xd271, 0xfc0602e3, "beq x12,x0,-60")
    ∷ (0xd31d, 0xf20703e3, "beq x14,x0,-218") ∷ (0xd3c9, 0xf80781e3, "beq x15,x0,-126") ∷ (0xd475, 0xfe0406e3, "beq x8,x0,-20")
    ∷ (0xd521, 0xf40504e3, "beq x10,x0,-184") ∷ (0xd5cd, 0xfa0585e3, "beq x11,x0,-86") ∷ (0xd679, 0xfc0607e3, "beq x12,x0,-50")
    ∷ (0xd725, 0xf60704e3, "beq x14,x0,-152") ∷ (0xd7d1, 0xf80786e3, "beq x15,x0,-116") ∷ (0xd87d, 0xfe040be3, "beq x8,x0,-10")
    ∷ (0xd929, 0xf40509e3, "beq x10,x0,-174") ∷ (0xd9d5, 0xfa058ae3, "beq x11,x0,-76") ∷ (0xda81, 0xf00688e3, "beq x13,x0,-240")
    ∷ (0xdb2d, 0xf60709e3, "beq x14,x0,-142") ∷ (0xdbd9, 0xf8078be3, "beq x15,x0,-106") ∷ (0xdc85, 0xf2048ce3, "beq x9,x0,-200")
    ∷ (0xdd31, 0xf4050ee3, "beq x10,x0,-164") ∷ (0xdddd, 0xfa058fe3, "beq x11,x0,-66") ∷ (0xde89, 0xf0068de3, "beq x13,x0,-230")
    ∷ (0xdf35, 0xf6070ee3, "beq x14,x0,-132") ∷ (0xdfe1, 0xfc078ce3, "beq x15,x0,-40") ∷ []

abbrev c_bnez : List Half
c_bnez =
    (0xe001, 0x00041063, "bne x8,x0,0") ∷ (0xe051, 0x08041263, "bne x8,x0,132") ∷ (0xe0fd, 0x0e049363, "bne x9,x0,230")
    ∷ (0xe1a9, 0x04059163, "bne x11,x0,66") ∷ (0xe255, 0x0a061263, "bne x12,x0,164") ∷ (0xe301, 0x00071063, "bne x14,x0,0")
    ∷ (0xe3ad, 0x06079163, "bne x15,x0,98") ∷ (0xe459, 0x08041763, "bne x8,x0,142") ∷ (0xe505, 0x02051463, "bne x10,x0,40")
    ∷ (0xe5b1, 0x04059663, "bne x11,x0,76") ∷ (0xe65d, 0x0a061763, "bne x12,x0,174") ∷ (0xe709, 0x00071563, "bne x14,x0,10")
    ∷ (0xe7b5, 0x06079663, "bne x15,x0,108") ∷ (0xe861, 0x0c041863, "bne x8,x0,208") ∷ (0xe90d, 0x02051963, "bne x10,x0,50")
    ∷ (0xe9b9, 0x04059b63, "bne x11,x0,86") ∷ (0xea65, 0x0e061863, "bne x12,x0,240") ∷ (0xeb11, 0x00071a63, "bne x14,x0,20")
    ∷ (0xebbd, 0x06079b63, "bne x15,x0,118") ∷ (0xec69, 0x0c041d63, "bne x8,x0,218") ∷ (0xed15, 0x02051e63, "bne x10,x0,60")
    ∷ (0xedc1, 0x08059c63, "bne x11,x0,152") ∷ (0xee6d, 0x0e061d63, "bne x12,x0,250") ∷ (0xef19, 0x00071f63, "bne x14,x0,30")
    ∷ (0xefc5, 0x0a079c63, "bne x15,x0,184") ∷ (0xf001, 0xf00410e3, "bne x8,x0,-256") ∷ (0xf071, 0xfc0412e3, "bne x8,x0,-60")
    ∷ (0xf11d, 0xf20513e3, "bne x10,x0,-218") ∷ (0xf1c9, 0xf80591e3, "bne x11,x0,-126") ∷ (0xf275, 0xfe0612e3, "bne x12,x0,-28")
    ∷ (0xf321, 0xf40710e3, "bne x14,x0,-192") ∷ (0xf3cd, 0xfa0791e3, "bne x15,x0,-94") ∷ (0xf479, 0xfc0417e3, "bne x8,x0,-50")
    ∷ (0xf525, 0xf60514e3, "bne x10,x0,-152") ∷ (0xf5d1, 0xf80596e3, "bne x11,x0,-116") ∷ (0xf67d, 0xfe0617e3, "bne x12,x0,-18")
    ∷ (0xf729, 0xf40715e3, "bne x14,x0,-182") ∷ (0xf7d5, 0xfa0796e3, "bne x15,x0,-84") ∷ (0xf881, 0xf00498e3, "bne x9,x0,-240")
    ∷ (0xf92d, 0xf60519e3, "bne x10,x0,-142") ∷ (0xf9d9, 0xf8059be3, "bne x11,x0,-106") ∷ (0xfa85, 0xf20698e3, "bne x13,x0,-208")
    ∷ (0xfb31, 0xf4071ae3, "bne x14,x0,-172") ∷ (0xfbdd, 0xfa079be3, "bne x15,x0,-74") ∷ (0xfc89, 0xf0049de3, "bne x9,x0,-230")
    ∷ (0xfd35, 0xf6051ee3, "bne x10,x0,-132") ∷ (0xfde1, 0xfc059ce3, "bne x11,x0,-40") ∷ (0xfe8d, 0xf2069de3, "bne x13,x0,-198")
    ∷ (0xff39, 0xf4071fe3, "bne x14,x0,-162") ∷ (0xffe5, 0xfe079ce3, "bne x15,x0,-8") ∷ []

abbrev c_slli : List Half
c_slli =
    (0x0002, 0x00001013, "slli x0,x0,0") ∷ (0x00be, 0x00f09093, "slli x1,x1,15") ∷ (0x016a, 0x01a11113, "slli x2,x2,26")
    ∷ (0x0216, 0x00521213, "slli x4,x4,5") ∷ (0x02c2, 0x01029293, "slli x5,x5,16") ∷ (0x036e, 0x01b31313, "slli x6,x6,27")
    ∷ (0x041a, 0x00641413, "slli x8,x8,6") ∷ (0x04c6, 0x01149493, "slli x9,x9,17") ∷ (0x0572, 0x01c51513, "slli x10,x10,28")
    ∷ (0x061e, 0x00761613, "slli x12,x12,7") ∷ (0x06ca, 0x01269693, "slli x13,x13,18") ∷ (0x0776, 0x01d71713, "slli x14,x14,29")
    ∷ (0x0822, 0x00881813, "slli x16,x16,8") ∷ (0x08ce, 0x01389893, "slli x17,x17,19") ∷ (0x097a, 0x01e91913, "slli x18,x18,30")
    ∷ (0x0a26, 0x009a1a13, "slli x20,x20,9") ∷ (0x0ad2, 0x014a9a93, "slli x21,x21,20") ∷ (0x0b7e, 0x01fb1b13, "slli x22,x22,31")
    ∷ (0x0c2a, 0x00ac1c13, "slli x24,x24,10") ∷ (0x0cd6, 0x015c9c93, "slli x25,x25,21") ∷ (0x0d82, 0x000d9d93, "slli x27,x27,0")
    ∷ (0x0e2e, 0x00be1e13, "slli x28,x28,11") ∷ (0x0eda, 0x016e9e93, "slli x29,x29,22") ∷ (0x0f86, 0x001f9f93, "slli x31,x31,1") ∷ []

abbrev c_lwsp : List Half
c_lwsp =
    (0x4082, 0x00012083, "lw x1,0(x2)") ∷ (0x40fa, 0x09c12083, "lw x1,156(x2)") ∷ (0x41a6, 0x04812183, "lw x3,72(x2)")
    ∷ (0x4252, 0x01412203, "lw x4,20(x2)") ∷ (0x42fe, 0x0dc12283, "lw x5,220(x2)") ∷ (0x43aa, 0x08812383, "lw x7,136(x2)")
    ∷ (0x4456, 0x05412403, "lw x8,84(x2)") ∷ (0x4502, 0x00012503, "lw x10,0(x2)") ∷ (0x45ae, 0x0c812583, "lw x11,200(x2)")
    ∷ (0x465a, 0x09412603, "lw x12,148(x2)") ∷ (0x4706, 0x04012703, "lw x14,64(x2)") ∷ (0x47b2, 0x00c12783, "lw x15,12(x2)")
    ∷ (0x485e, 0x0d412803, "lw x16,212(x2)") ∷ (0x490a, 0x08012903, "lw x18,128(x2)") ∷ (0x49b6, 0x04c12983, "lw x19,76(x2)")
    ∷ (0x4a62, 0x01812a03, "lw x20,24(x2)") ∷ (0x4b0e, 0x0c012b03, "lw x22,192(x2)") ∷ (0x4bba, 0x08c12b83, "lw x23,140(x2)")
    ∷ (0x4c66, 0x05812c03, "lw x24,88(x2)") ∷ (0x4d12, 0x00412d03, "lw x26,4(x2)") ∷ (0x4dbe, 0x0cc12d83, "lw x27,204(x2)")
    ∷ (0x4e6a, 0x09812e03, "lw x28,152(x2)") ∷ (0x4f16, 0x04412f03, "lw x30,68(x2)") ∷ (0x4fc2, 0x01012f83, "lw x31,16(x2)")
    ∷ (0x5082, 0x02012083, "lw x1,32(x2)") ∷ (0x50d2, 0x03412083, "lw x1,52(x2)") ∷ (0x517e, 0x0fc12103, "lw x2,252(x2)")
    ∷ (0x522a, 0x0a812203, "lw x4,168(x2)") ∷ (0x52d6, 0x07412283, "lw x5,116(x2)") ∷ (0x5382, 0x02012383, "lw x7,32(x2)")
    ∷ (0x542e, 0x0e812403, "lw x8,232(x2)") ∷ (0x54da, 0x0b412483, "lw x9,180(x2)") ∷ (0x5586, 0x06012583, "lw x11,96(x2)")
    ∷ (0x5632, 0x02c12603, "lw x12,44(x2)") ∷ (0x56de, 0x0f412683, "lw x13,244(x2)") ∷ (0x578a, 0x0a012783, "lw x15,160(x2)")
    ∷ (0x5836, 0x06c12803, "lw x16,108(x2)") ∷ (0x58e2, 0x03812883, "lw x17,56(x2)") ∷ (0x598e, 0x0e012983, "lw x19,224(x2)")
    ∷ (0x5a3a, 0x0ac12a03, "lw x20,172(x2)") ∷ (0x5ae6, 0x07812a83, "lw x21,120(x2)") ∷ (0x5b92, 0x02412b83, "lw x23,36(x2)")
    ∷ (0x5c3e, 0x0ec12c03, "lw x24,236(x2)") ∷ (0x5cea, 0x0b812c83, "lw x25,184(x2)") ∷ (0x5d96, 0x06412d83, "lw x27,100(x2)")
    ∷ (0x5e42, 0x03012e03, "lw x28,48(x2)") ∷ (0x5eee, 0x0f812e83, "lw x29,248(x2)") ∷ (0x5f9a, 0x0a412f83, "lw x31,164(x2)") ∷ []

abbrev c_register : List Half
c_register =
    (0x8006, 0x00100033, "add x0,x0,x1") ∷ (0x8076, 0x01d00033, "add x0,x0,x29") ∷ (0x8082, 0x00008067, "jalr x0,0(x1)")
    ∷ (0x8122, 0x00800133, "add x2,x0,x8") ∷ (0x81ce, 0x013001b3, "add x3,x0,x19") ∷ (0x827a, 0x01e00233, "add x4,x0,x30")
    ∷ (0x8326, 0x00900333, "add x6,x0,x9") ∷ (0x83d2, 0x014003b3, "add x7,x0,x20") ∷ (0x847e, 0x01f00433, "add x8,x0,x31")
    ∷ (0x852a, 0x00a00533, "add x10,x0,x10") ∷ (0x85d6, 0x015005b3, "add x11,x0,x21") ∷ (0x8682, 0x00068067, "jalr x0,0(x13)")
    ∷ (0x872e, 0x00b00733, "add x14,x0,x11") ∷ (0x87da, 0x016007b3, "add x15,x0,x22") ∷ (0x8886, 0x001008b3, "add x17,x0,x1")
    ∷ (0x8932, 0x00c00933, "add x18,x0,x12") ∷ (0x89de, 0x017009b3, "add x19,x0,x23") ∷ (0x8a8a, 0x00200ab3, "add x21,x0,x2")
    ∷ (0x8b36, 0x00d00b33, "add x22,x0,x13") ∷ (0x8be2, 0x01800bb3, "add x23,x0,x24") ∷ (0x8c8e, 0x00300cb3, "add x25,x0,x3")
    ∷ (0x8d3a, 0x00e00d33, "add x26,x0,x14") ∷ (0x8de6, 0x01900db3, "add x27,x0,x25") ∷ (0x8e92, 0x00400eb3, "add x29,x0,x4")
    ∷ (0x8f3e, 0x00f00f33, "add x30,x0,x15") ∷ (0x8fea, 0x01a00fb3, "add x31,x0,x26") ∷ (0x9002, 0x00100073, "ebreak")
    ∷ (0x9006, 0x00100033, "add x0,x0,x1") ∷ (0x9082, 0x000080e7, "jalr x1,0(x1)") ∷ (0x912e, 0x00b10133, "add x2,x2,x11")
    ∷ (0x91da, 0x016181b3, "add x3,x3,x22") ∷ (0x9286, 0x001282b3, "add x5,x5,x1") ∷ (0x9332, 0x00c30333, "add x6,x6,x12")
    ∷ (0x93de, 0x017383b3, "add x7,x7,x23") ∷ (0x948a, 0x002484b3, "add x9,x9,x2") ∷ (0x9536, 0x00d50533, "add x10,x10,x13")
    ∷ (0x95e2, 0x018585b3, "add x11,x11,x24") ∷ (0x968e, 0x003686b3, "add x13,x13,x3") ∷ (0x973a, 0x00e70733, "add x14,x14,x14")
    ∷ (0x97e6, 0x019787b3, "add x15,x15,x25") ∷ (0x989e, 0x007888b3, "add x17,x17,x7") ∷ (0x994a, 0x01290933, "add x18,x18,x18")
    ∷ (0x99f6, 0x01d989b3, "add x19,x19,x29") ∷ (0x9aa2, 0x008a8ab3, "add x21,x21,x8") ∷ (0x9b4e, 0x013b0b33, "add x22,x22,x19")
    ∷ (0x9bfa, 0x01eb8bb3, "add x23,x23,x30") ∷ (0x9ca2, 0x008c8cb3, "add x25,x25,x8") ∷ (0x9d4e, 0x013d0d33, "add x26,x26,x19")
    ∷ (0x9dfa, 0x01ed8db3, "add x27,x27,x30") ∷ (0x9ea6, 0x009e8eb3, "add x29,x29,x9") ∷ (0x9f52, 0x014f0f33, "add x30,x30,x20")
    ∷ (0x9ffe, 0x01ff8fb3, "add x31,x31,x31") ∷ []

abbrev c_swsp : List Half
c_swsp =
    (0xc002, 0x00012023, "sw x0,0(x2)") ∷ (0xc086, 0x04112023, "sw x1,64(x2)") ∷ (0xc132, 0x08c12023, "sw x12,128(x2)")
    ∷ (0xc1de, 0x0d712023, "sw x23,192(x2)") ∷ (0xc28a, 0x04212223, "sw x2,68(x2)") ∷ (0xc336, 0x08d12223, "sw x13,132(x2)")
    ∷ (0xc3e2, 0x0d812223, "sw x24,196(x2)") ∷ (0xc48e, 0x04312423, "sw x3,72(x2)") ∷ (0xc53a, 0x08e12423, "sw x14,136(x2)")
    ∷ (0xc5e6, 0x0d912423, "sw x25,200(x2)") ∷ (0xc692, 0x04412623, "sw x4,76(x2)") ∷ (0xc73e, 0x08f12623, "sw x15,140(x2)")
    ∷ (0xc7ea, 0x0da12623, "sw x26,204(x2)") ∷ (0xc896, 0x04512823, "sw x5,80(x2)") ∷ (0xc942, 0x09012823, "sw x16,144(x2)")
    ∷ (0xc9ee, 0x0db12823, "sw x27,208(x2)") ∷ (0xca9a, 0x04612a23, "sw x6,84(x2)") ∷ (0xcb46, 0x09112a23, "sw x17,148(x2)")
    ∷ (0xcbf2, 0x0dc12a23, "sw x28,212(x2)") ∷ (0xcc9e, 0x04712c23, "sw x7,88(x2)") ∷ (0xcd4a, 0x09212c23, "sw x18,152(x2)")
    ∷ (0xcdf6, 0x0dd12c23, "sw x29,216(x2)") ∷ (0xcea2, 0x04812e23, "sw x8,92(x2)") ∷ (0xcf4e, 0x09312e23, "sw x19,156(x2)")
    ∷ (0xcffa, 0x0de12e23, "sw x30,220(x2)") ∷ (0xd002, 0x02012023, "sw x0,32(x2)") ∷ (0xd0a6, 0x06912023, "sw x9,96(x2)")
    ∷ (0xd152, 0x0b412023, "sw x20,160(x2)") ∷ (0xd1fe, 0x0ff12023, "sw x31,224(x2)") ∷ (0xd2aa, 0x06a12223, "sw x10,100(x2)")
    ∷ (0xd356, 0x0b512223, "sw x21,164(x2)") ∷ (0xd402, 0x02012423, "sw x0,40(x2)") ∷ (0xd4ae, 0x06b12423, "sw x11,104(x2)")
    ∷ (0xd55a, 0x0b612423, "sw x22,168(x2)") ∷ (0xd606, 0x02112623, "sw x1,44(x2)") ∷ (0xd6b2, 0x06c12623, "sw x12,108(x2)")
    ∷ (0xd75e, 0x0b712623, "sw x23,172(x2)") ∷ (0xd80a, 0x02212823, "sw x2,48(x2)") ∷ (0xd8b6, 0x06d12823, "sw x13,112(x2)")
    ∷ (0xd962, 0x0b812823, "sw x24,176(x2)") ∷ (0xda0e, 0x02312a23, "sw x3,52(x2)") ∷ (0xdaba, 0x06e12a23, "sw x14,116(x2)")
    ∷ (0xdb66, 0x0b912a23, "sw x25,180(x2)") ∷ (0xdc12, 0x02412c23, "sw x4,56(x2)") ∷ (0xdcbe, 0x06f12c23, "sw x15,120(x2)")
    ∷ (0xdd6a, 0x0ba12c23, "sw x26,184(x2)") ∷ (0xde16, 0x02512e23, "sw x5,60(x2)") ∷ (0xdec2, 0x07012e23, "sw x16,124(x2)")
    ∷ (0xdf6e, 0x0bb12e23, "sw x27,188(x2)") ∷ []

-- no instruction
abbrev illegal_halves : List ℕ
illegal_halves =
    0x0000 ∷ 0x0003 ∷ 0x0004 ∷ 0x0007 ∷ 0x0008 ∷ 0x000b ∷ 0x000c ∷ 0x018f ∷ 0x0323 ∷ 0x04b7 ∷ 0x064b ∷ 0x07df ∷ 0x0973 ∷ 0x0b07 ∷ 0x0c9b ∷ 0x0e2f
    ∷ 0x0fc3 ∷ 0x1002 ∷ 0x1003 ∷ 0x1006 ∷ 0x1007 ∷ 0x100a ∷ 0x100b ∷ 0x10ab ∷ 0x1176 ∷ 0x123f ∷ 0x130a ∷ 0x13d3 ∷ 0x149e ∷ 0x1567 ∷ 0x1632 ∷ 0x16fb
    ∷ 0x17c6 ∷ 0x188f ∷ 0x195a ∷ 0x1a23 ∷ 0x1aee ∷ 0x1bb7 ∷ 0x1c82 ∷ 0x1d4b ∷ 0x1e16 ∷ 0x1edf ∷ 0x1faa ∷ 0x2000 ∷ 0x2002 ∷ 0x2003 ∷ 0x2004 ∷ 0x2006
    ∷ 0x2007 ∷ 0x2008 ∷ 0x200a ∷ 0x200b ∷ 0x204c ∷ 0x20d3 ∷ 0x215a ∷ 0x21e0 ∷ 0x2267 ∷ 0x22ee ∷ 0x2374 ∷ 0x23fb ∷ 0x2482 ∷ 0x2508 ∷ 0x258f ∷ 0x2616
    ∷ 0x269c ∷ 0x2723 ∷ 0x27aa ∷ 0x2830 ∷ 0x28b7 ∷ 0x293e ∷ 0x29c4 ∷ 0x2a4b ∷ 0x2ad2 ∷ 0x2b58 ∷ 0x2bdf ∷ 0x2c66 ∷ 0x2cec ∷ 0x2d73 ∷ 0x2dfa ∷ 0x2e80
    ∷ 0x2f07 ∷ 0x2f8e ∷ 0x3000 ∷ 0x3002 ∷ 0x3003 ∷ 0x3004 ∷ 0x3006 ∷ 0x3007 ∷ 0x3008 ∷ 0x300a ∷ 0x300b ∷ 0x3014 ∷ 0x309b ∷ 0x3122 ∷ 0x31a8 ∷ 0x322f
    ∷ 0x32b6 ∷ 0x333c ∷ 0x33c3 ∷ 0x344a ∷ 0x34d0 ∷ 0x3557 ∷ 0x35de ∷ 0x3664 ∷ 0x36eb ∷ 0x3772 ∷ 0x37f8 ∷ 0x387f ∷ 0x3906 ∷ 0x398c ∷ 0x3a13 ∷ 0x3a9a
    ∷ 0x3b20 ∷ 0x3ba7 ∷ 0x3c2e ∷ 0x3cb4 ∷ 0x3d3b ∷ 0x3dc2 ∷ 0x3e48 ∷ 0x3ecf ∷ 0x3f56 ∷ 0x3fdc ∷ 0x4002 ∷ 0x4003 ∷ 0x4006 ∷ 0x4007 ∷ 0x400a ∷ 0x400b
    ∷ 0x40ab ∷ 0x423f ∷ 0x43d3 ∷ 0x4567 ∷ 0x46fb ∷ 0x488f ∷ 0x4a23 ∷ 0x4bb7 ∷ 0x4d4b ∷ 0x4edf ∷ 0x5002 ∷ 0x5003 ∷ 0x5006 ∷ 0x5007 ∷ 0x500a ∷ 0x500b
    ∷ 0x503a ∷ 0x5187 ∷ 0x531b ∷ 0x54af ∷ 0x5643 ∷ 0x57d7 ∷ 0x596b ∷ 0x5aff ∷ 0x5c93 ∷ 0x5e27 ∷ 0x5fbb ∷ 0x6000 ∷ 0x6001 ∷ 0x6002 ∷ 0x6003 ∷ 0x6004
    ∷ 0x6006 ∷ 0x6007 ∷ 0x6008 ∷ 0x600a ∷ 0x600b ∷ 0x606e ∷ 0x6081 ∷ 0x60f3 ∷ 0x6101 ∷ 0x6178 ∷ 0x61fe ∷ 0x6282 ∷ 0x6307 ∷ 0x638c ∷ 0x6412 ∷ 0x6497
    ∷ 0x651c ∷ 0x65a2 ∷ 0x6627 ∷ 0x66ac ∷ 0x6732 ∷ 0x67b7 ∷ 0x683c ∷ 0x68c2 ∷ 0x6947 ∷ 0x69cc ∷ 0x6a52 ∷ 0x6ad7 ∷ 0x6b5c ∷ 0x6be2 ∷ 0x6c67 ∷ 0x6cec
    ∷ 0x6d72 ∷ 0x6df7 ∷ 0x6e7c ∷ 0x6f01 ∷ 0x6f86 ∷ 0x7000 ∷ 0x7002 ∷ 0x7003 ∷ 0x7004 ∷ 0x7006 ∷ 0x7007 ∷ 0x7008 ∷ 0x700a ∷ 0x700b ∷ 0x700c ∷ 0x7093
    ∷ 0x711a ∷ 0x71a0 ∷ 0x7227 ∷ 0x72ae ∷ 0x7334 ∷ 0x73bb ∷ 0x7442 ∷ 0x74c8 ∷ 0x754f ∷ 0x75d6 ∷ 0x765c ∷ 0x76e3 ∷ 0x776a ∷ 0x77f0 ∷ 0x7877 ∷ 0x78fe
    ∷ 0x7984 ∷ 0x7a0b ∷ 0x7a92 ∷ 0x7b18 ∷ 0x7b9f ∷ 0x7c26 ∷ 0x7cac ∷ 0x7d33 ∷ 0x7dba ∷ 0x7e40 ∷ 0x7ec7 ∷ 0x7f4e ∷ 0x7fd4 ∷ 0x8000 ∷ 0x8002 ∷ 0x8003
    ∷ 0x8004 ∷ 0x8007 ∷ 0x8008 ∷ 0x800b ∷ 0x8087 ∷ 0x8150 ∷ 0x821b ∷ 0x82e4 ∷ 0x83af ∷ 0x8478 ∷ 0x8543 ∷ 0x860c ∷ 0x86d7 ∷ 0x87a0 ∷ 0x886b ∷ 0x8934
    ∷ 0x89ff ∷ 0x8ac8 ∷ 0x8b93 ∷ 0x8c5c ∷ 0x8d27 ∷ 0x8df0 ∷ 0x8ebb ∷ 0x8f84 ∷ 0x9000 ∷ 0x9001 ∷ 0x9003 ∷ 0x9004 ∷ 0x9005 ∷ 0x9007 ∷ 0x9008 ∷ 0x9009
    ∷ 0x900b ∷ 0x9034 ∷ 0x90bb ∷ 0x9141 ∷ 0x91c8 ∷ 0x924f ∷ 0x92d5 ∷ 0x935c ∷ 0x93e3 ∷ 0x9469 ∷ 0x94f0 ∷ 0x9577 ∷ 0x95fd ∷ 0x9684 ∷ 0x970b ∷ 0x9791
    ∷ 0x9824 ∷ 0x98ef ∷ 0x99b8 ∷ 0x9a83 ∷ 0x9b4c ∷ 0x9c0f ∷ 0x9c95 ∷ 0x9d1c ∷ 0x9da3 ∷ 0x9e29 ∷ 0x9eb0 ∷ 0x9f37 ∷ 0x9fbd ∷ 0xa000 ∷ 0xa002 ∷ 0xa003
    ∷ 0xa004 ∷ 0xa006 ∷ 0xa007 ∷ 0xa008 ∷ 0xa00a ∷ 0xa00b ∷ 0xa044 ∷ 0xa0cb ∷ 0xa152 ∷ 0xa1d8 ∷ 0xa25f ∷ 0xa2e6 ∷ 0xa36c ∷ 0xa3f3 ∷ 0xa47a ∷ 0xa500
    ∷ 0xa587 ∷ 0xa60e ∷ 0xa694 ∷ 0xa71b ∷ 0xa7a2 ∷ 0xa828 ∷ 0xa8af ∷ 0xa936 ∷ 0xa9bc ∷ 0xaa43 ∷ 0xaaca ∷ 0xab50 ∷ 0xabd7 ∷ 0xac5e ∷ 0xace4 ∷ 0xad6b
    ∷ 0xadf2 ∷ 0xae78 ∷ 0xaeff ∷ 0xaf86 ∷ 0xb000 ∷ 0xb002 ∷ 0xb003 ∷ 0xb004 ∷ 0xb006 ∷ 0xb007 ∷ 0xb008 ∷ 0xb00a ∷ 0xb00b ∷ 0xb00c ∷ 0xb093 ∷ 0xb11a
    ∷ 0xb1a0 ∷ 0xb227 ∷ 0xb2ae ∷ 0xb334 ∷ 0xb3bb ∷ 0xb442 ∷ 0xb4c8 ∷ 0xb54f ∷ 0xb5d6 ∷ 0xb65c ∷ 0xb6e3 ∷ 0xb76a ∷ 0xb7f0 ∷ 0xb877 ∷ 0xb8fe ∷ 0xb984
    ∷ 0xba0b ∷ 0xba92 ∷ 0xbb18 ∷ 0xbb9f ∷ 0xbc26 ∷ 0xbcac ∷ 0xbd33 ∷ 0xbdba ∷ 0xbe40 ∷ 0xbec7 ∷ 0xbf4e ∷ 0xbfd4 ∷ 0xc003 ∷ 0xc007 ∷ 0xc00b ∷ 0xc113
    ∷ 0xc2a7 ∷ 0xc43b ∷ 0xc5cf ∷ 0xc763 ∷ 0xc8f7 ∷ 0xca8b ∷ 0xcc1f ∷ 0xcdb3 ∷ 0xcf47 ∷ 0xd003 ∷ 0xd007 ∷ 0xd00b ∷ 0xd0db ∷ 0xd26f ∷ 0xd403 ∷ 0xd597
    ∷ 0xd72b ∷ 0xd8bf ∷ 0xda53 ∷ 0xdbe7 ∷ 0xdd7b ∷ 0xdf0f ∷ 0xe000 ∷ 0xe002 ∷ 0xe003 ∷ 0xe004 ∷ 0xe006 ∷ 0xe007 ∷ 0xe008 ∷ 0xe00a ∷ 0xe00b ∷ 0xe036
    ∷ 0xe0bc ∷ 0xe143 ∷ 0xe1ca ∷ 0xe250 ∷ 0xe2d7 ∷ 0xe35e ∷ 0xe3e4 ∷ 0xe46b ∷ 0xe4f2 ∷ 0xe578 ∷ 0xe5ff ∷ 0xe686 ∷ 0xe70c ∷ 0xe793 ∷ 0xe81a ∷ 0xe8a0
    ∷ 0xe927 ∷ 0xe9ae ∷ 0xea34 ∷ 0xeabb ∷ 0xeb42 ∷ 0xebc8 ∷ 0xec4f ∷ 0xecd6 ∷ 0xed5c ∷ 0xede3 ∷ 0xee6a ∷ 0xeef0 ∷ 0xef77 ∷ 0xeffe ∷ 0xf000 ∷ 0xf002
    ∷ 0xf003 ∷ 0xf004 ∷ 0xf006 ∷ 0xf007 ∷ 0xf008 ∷ 0xf00a ∷ 0xf00b ∷ 0xf084 ∷ 0xf10b ∷ 0xf192 ∷ 0xf218 ∷ 0xf29f ∷ 0xf326 ∷ 0xf3ac ∷ 0xf433 ∷ 0xf4ba
    ∷ 0xf540 ∷ 0xf5c7 ∷ 0xf64e ∷ 0xf6d4 ∷ 0xf75b ∷ 0xf7e2 ∷ 0xf868 ∷ 0xf8ef ∷ 0xf976 ∷ 0xf9fc ∷ 0xfa83 ∷ 0xfb0a ∷ 0xfb90 ∷ 0xfc17 ∷ 0xfc9e ∷ 0xfd24
    ∷ 0xfdab ∷ 0xfe32 ∷ 0xfeb8 ∷ 0xff3f ∷ 0xffc6 ∷ []

-- ---- the claim

-- what the definitions say of some bits: the word and the text of the instruction that they mean
abbrev pub word_and_text_of : Option Inst → Option (Option ℕ × List ℕ)
word_and_text_of (Some i) = Some (encoded i, text_of i)
word_and_text_of None = None

-- what a row says of them
abbrev pub word_and_text : ℕ → String → Option (Option ℕ × List ℕ)
word_and_text w text = Some (Some w, bytes text)

-- row by row, both say the same
abbrev pub Words : List Word → Type 0
Words rows = map (λ row. word_and_text_of (decoded row.0)) rows ≡ map (λ row. word_and_text row.0 row.1) rows

-- .. and the word is decoded to what the halfword stands for
abbrev pub Halves : List Half → Type 0
Halves rows =
    (map (λ row. word_and_text_of (expanded row.0)) rows ≡ map (λ row. word_and_text row.1 row.2) rows)
    × (map (λ row. decoded row.1) rows ≡ map (λ row. expanded row.0) rows)

-- a claim of each table
abbrev pub Each : {A : Type 0} → (A → Type 0) → List A → Type 0
Each Says [] = Unit {0}
Each Says (t ∷ ts) = Says t × Each Says ts

pub record VectorsHold : Type 0 where
  pub words : Each Words (uppers ∷ jumps ∷ branches ∷ loads ∷ stores ∷ immediates ∷ registers ∷ fences ∷ mul_divs ∷ [])
  pub no_words : map decoded illegal_words ≡ map (λ w. None) illegal_words
  pub quadrant0 : Each Halves (c_addi4spn ∷ c_lw ∷ c_sw ∷ [])
  pub quadrant1 : Each Halves (c_addi ∷ c_jal ∷ c_li ∷ c_upper ∷ c_alu ∷ c_j ∷ c_beqz ∷ c_bnez ∷ [])
  pub quadrant2 : Each Halves (c_slli ∷ c_lwsp ∷ c_register ∷ c_swsp ∷ [])
  pub no_halves : map expanded illegal_halves ≡ map (λ h. None) illegal_halves
