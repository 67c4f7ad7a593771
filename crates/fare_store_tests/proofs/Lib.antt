mod Shelved
